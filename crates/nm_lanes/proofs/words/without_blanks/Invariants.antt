use Rattle.std.proofs.Common.{◌≡◌, length}
use denote.Shadow.{shadow}
use denote.Text.{Utf8}
use Rattle.nm_lanes.specs.Words.{words_of}
use Rattle.nm_lanes.proofs.words.without_blanks.Given as goal

abbrev pub invariant-blanks : goal.invariant-blanks
invariant-blanks l = (words_of l.rest ≡ words_of l.text) × shadow (Utf8 l.rest)

abbrev pub decreases-blanks : goal.decreases-blanks
decreases-blanks l = length l.rest
