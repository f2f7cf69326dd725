-- The letters in the names of files (maildir(5)). Cited by `laws`.
use Rattle.std.specs.Prelude.{ℕ, Bool, false, List, [], ◌∷◌}
use Rattle.std.specs.List.{list_any}
use Rattle.nm_name.specs.Cuts.{holds}
use Rattle.nm_name.specs.Names.{letters_of, name_of}

-- the name of a file has this letter, a text of one byte
abbrev pub has_letter : List ℕ → List ℕ → Bool
has_letter [] path = false
has_letter (letter ∷ more) path = holds letter (letters_of (name_of path))

-- one of the files has it
abbrev pub any_has : List ℕ → List (List ℕ) → Bool
any_has letter paths = list_any (has_letter letter) paths
