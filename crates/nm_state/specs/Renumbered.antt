-- An index whose ids are numbered anew: it takes as many bytes. Cited by `fresh_numbers`.
use Rattle.std.specs.Prelude.{ℕ, ◌+◌, List, [], ◌∷◌, length}
use Rattle.nm_model_index.specs.declared.base.Base.{Base}

-- the ids with the numbers from this one on
abbrev pub counted : ℕ → List (List ℕ × ℕ) → List (List ℕ × ℕ)
counted number [] = []
counted number (entry ∷ entries) = (entry.0, number) ∷ counted (number + 1) entries

-- the index whose ids have the numbers from 1 on, in the order of those that they had
abbrev pub renumbered : Base → Base
renumbered index = record index { entries = counted 1 index.entries; next = 1 + length index.entries }
