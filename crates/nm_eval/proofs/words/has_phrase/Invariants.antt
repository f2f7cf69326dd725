use Rattle.std.proofs.Common.{◌≡◌, ◌∷◌, length}
use Rattle.nm_base.specs.AskedWords.{has_words}
use Rattle.nm_eval.proofs.words.has_phrase.Given as goal

-- what is left has the words where all have
abbrev pub invariant-places : goal.invariant-places
invariant-places l = has_words l.starts (l.first ∷ l.more) l.rest ≡ has_words l.starts (l.first ∷ l.more) l.list

abbrev pub decreases-places : goal.decreases-places
decreases-places l = length l.rest
