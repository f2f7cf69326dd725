use Rattle.std.proofs.Common.{◌≡◌, length}
use Rattle.nm_decode.specs.EncodedWords.{is_q_text}
use Rattle.nm_decode.proofs.decodes.is_q_text.Given as goal

abbrev pub invariant-marks : goal.invariant-marks
invariant-marks l = is_q_text l.rest ≡ is_q_text l.encoded

abbrev pub decreases-marks : goal.decreases-marks
decreases-marks l = length l.rest
