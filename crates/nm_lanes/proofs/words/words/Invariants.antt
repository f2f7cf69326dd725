use Rattle.std.proofs.Common.{◌≡◌, ◌++◌, length}
use denote.Shadow.{shadow}
use denote.Text.{Utf8}
use Rattle.nm_lanes.specs.Words.{words_of}
use Rattle.nm_lanes.proofs.words.words.Given as goal

-- the words read so far, and those of the rest
abbrev pub invariant-words : goal.invariant-words
invariant-words l = shadow (Utf8 l.rest) × (l.words ++ words_of l.rest ≡ words_of l.text)

abbrev pub decreases-words : goal.decreases-words
decreases-words l = length (words_of l.rest)
