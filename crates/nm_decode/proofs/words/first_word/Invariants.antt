use Rattle.std.proofs.Common.{length, drop, ◌-◌, ◌≡◌, ◌≤◌}
use Rattle.nm_decode.specs.EncodedWords.{first_word}
use Rattle.nm_decode.proofs.WordLemmas.{later}
use Rattle.nm_decode.proofs.words.first_word.Given as goal

abbrev pub invariant-places : goal.invariant-places
invariant-places l = (first_word l.text ≡ later l.at (first_word (drop l.at l.text))) × (l.at ≤ length l.text)

abbrev pub decreases-places : goal.decreases-places
decreases-places l = length l.text - l.at
