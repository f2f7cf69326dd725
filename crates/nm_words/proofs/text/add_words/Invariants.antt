use Rattle.std.proofs.Common.{◌≡◌, ◌++◌, length}
use denote.Text.{Utf8}
use denote.Shadow.{shadow}
use Rattle.nm_words.specs.Words.{words_of}
use Rattle.nm_words.proofs.text.add_words.Given as goal

-- so far, and what is left, is all
abbrev pub invariant-lines : goal.invariant-lines
invariant-lines l = shadow (Utf8 l.left) × (l.found ++ words_of l.left ≡ l.fn.found ++ words_of l.text)

abbrev pub decreases-lines : goal.decreases-lines
decreases-lines l = length l.left
