-- When a message has words: one single list of one single file has them one after the other.
-- Cited by `laws` and `nm_eval`.
use Rattle.std.specs.Prelude.{ℕ, Bool, true, List, [], ◌∷◌, Option}
use Rattle.std.specs.List.{list_any}
use Rattle.nm_base.specs.declared.facts.Facts.{Facts}
use Rattle.nm_base.specs.declared.facts.Field.{Field}
use Rattle.nm_base.specs.AskedWords.{lists_have}

-- one of the files has such a list; no words are in every message, also where it has no list at all
abbrev pub files_have : Option Field → Bool → List (List ℕ) → List (List ℕ × Facts) → Bool
files_have field starts [] files = true
files_have field starts (word ∷ words) files = list_any (λ file. lists_have field starts (word ∷ words) file.1.lists) files
