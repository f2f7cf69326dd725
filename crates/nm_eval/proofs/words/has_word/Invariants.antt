use Rattle.std.proofs.Common.{◌≡◌, ◌∷◌, [], length}
use Rattle.nm_base.specs.AskedWords.{has_words}
use Rattle.nm_eval.proofs.words.has_word.Given as goal

-- what is left has the word where all have
abbrev pub invariant-places : goal.invariant-places
invariant-places l = has_words l.starts (l.word ∷ []) l.rest ≡ has_words l.starts (l.word ∷ []) l.list

abbrev pub decreases-places : goal.decreases-places
decreases-places l = length l.rest
