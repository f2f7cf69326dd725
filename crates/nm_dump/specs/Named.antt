-- Which ids a map has. Cited by `restore`.
use Rattle.std.specs.Prelude.{◌≡◌, ℕ, List, is_some}
use Rattle.std.specs.BTreeMap.{is_at}
use Rattle.std.specs.Cmp.Lexicographic.{slice_cmp}
use Rattle.std.specs.Map.{lookup}
use Rattle.std.specs.Ordering.{nat_cmp}
use Rattle.nm_base.specs.Order.{has_text}

-- the keys of the map are these ids
abbrev pub Names : List (List ℕ × ℕ) → List (List ℕ) → Type 0
Names entries ids = (id : List ℕ) → is_some (lookup (is_at (slice_cmp nat_cmp id)) entries) ≡ has_text ids id
