use Rattle.std.proofs.Common.{◌≡◌, ◌≤◌, ℕ, List, ◌∷◌, ◌++◌, length}
use Rattle.nm_phrase.specs.Ends.{AreEndsIfAny}
use Rattle.nm_phrase.proofs.front.front_of.Given as goal

-- the words that were found end there, and after them come the last one so far and those that are left
abbrev pub invariant-words : goal.invariant-words
invariant-words g l = ((front : List (List ℕ)) × (l.words ≡ front ++ l.last ∷ l.rest) × AreEndsIfAny l.place.segment.now l.place.field front l.ends) × (l.initial.steps ≤ l.steps)

abbrev pub decreases-words : goal.decreases-words
decreases-words g l = length l.rest
