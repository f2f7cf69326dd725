-- Words that are in a list one after the other, reported by what comes before and after them. Cited by `laws`.
use Rattle.std.specs.Prelude.{◌≡◌, ℕ, List, ◌∷◌, ◌++◌}

-- the list is what comes before, the words, and what comes after
pub record Stand (words list : List (List ℕ)) : Type 0 where
  pub before : List (List ℕ)
  pub after : List (List ℕ)
  pub whole : list ≡ before ++ words ++ after

-- the same of words and of a word after them that begins with the last one
pub record StandWithFront (words : List (List ℕ)) (last : List ℕ) (list : List (List ℕ)) : Type 0 where
  pub before : List (List ℕ)
  pub rest : List ℕ
  pub after : List (List ℕ)
  pub whole : list ≡ before ++ words ++ (last ++ rest) ∷ after
