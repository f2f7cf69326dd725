-- The tree that is held in memory, and the places of its files. Cited by `memory_files`.
use Rattle.std.specs.Prelude.{◌≡◌, ℕ, suc, ◌<◌, List, [], ◌∷◌, length, slice_index_or, Option, None, Some, if◌then◌else◌}
use Rattle.std.specs.Option.{option_map}
use Rattle.std.specs.Cmp.Lexicographic.{slice_cmp}
use Rattle.std.specs.Ordering.{nat_cmp}
use Rattle.std.specs.BTreeMap.{BTreeMap, get}
use Rattle.nm_maildir.specs.Tree.{bytes_at}
use Rattle.nm_base.specs.Order.{same_text}

-- how many files come before the one with that path
abbrev pub place_of : List (List ℕ × List ℕ) → List ℕ → Option ℕ
place_of [] path = None
place_of (file ∷ files) path = if same_text file.0 path then Some 0 else option_map suc (place_of files path)

-- the map finds each path at its place, and no other path
abbrev pub IsIndex : BTreeMap (List ℕ) ℕ → List (List ℕ × List ℕ) → Type 0
IsIndex places files = (path : List ℕ) → get (slice_cmp nat_cmp) places path ≡ place_of files path

-- what a look-up that found this place says of the bytes of the file
abbrev pub Locates : List (List ℕ × List ℕ) → List ℕ → Option ℕ → Type 0
Locates files path None = bytes_at files path ≡ None
Locates files path (Some at) =
    (at < length files) × ((other : List ℕ × List ℕ) → bytes_at files path ≡ Some (slice_index_or files at other).1)
