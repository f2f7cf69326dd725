-- The paths of an index: no two files are at one. Cited by `tag_laws` and `nm_writer`.
use Rattle.std.specs.Prelude.{◌≡◌, ℕ, false, List, [], ◌∷◌}
use Rattle.nm_base.specs.declared.facts.Facts.{Facts}
use Rattle.nm_commit.specs.Files.{has_path}

-- each file is where none of those after it is
abbrev pub AreApart : List (List ℕ × Facts) → Type 0
AreApart [] = Unit {0}
AreApart (file ∷ more) = (has_path more file.0 ≡ false) × AreApart more
