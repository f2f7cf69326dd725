-- What follows from the definitions: which links there are and in which order, and what is read of HTML.
-- Cited by `laws`.
use Rattle.std.specs.Prelude.{◌≡◌, ℕ, false, List, [], ◌∷◌, ◌++◌}
use Rattle.nm_base.specs.Order.{has_text}

-- no text occurs twice
abbrev pub AreDistinct : List (List ℕ) → Type 0
AreDistinct [] = Unit {0}
AreDistinct (text ∷ texts) = (has_text texts text ≡ false) × AreDistinct texts

-- the texts begin with these
abbrev pub BeginsWith : List (List ℕ) → List (List ℕ) → Type 0
BeginsWith texts front = (rest : List (List ℕ)) × (texts ≡ front ++ rest)
