-- The names in each folder, gathered one path at a time. Cited by `memory_files` and `names`.
use Rattle.std.specs.Prelude.{◌≡◌, ℕ, List, [], Option, None, Some, if◌then◌else◌}
use Rattle.std.specs.Cmp.Lexicographic.{slice_cmp}
use Rattle.std.specs.Ordering.{nat_cmp}
use Rattle.std.specs.BTreeMap.{BTreeMap, get}
use Rattle.std.specs.BTreeSet.{BTreeSet}
use Rattle.nm_maildir.specs.Tree.{folder_of, name_of, names_in}
use Rattle.nm_base.specs.Order.{insert, same_text}

-- the names, and that of the path where it is directly in the folder
abbrev pub with_name : List ℕ → List (List ℕ) → List ℕ → List (List ℕ)
with_name folder names path =
    if same_text (folder_of path) folder then insert names (name_of path) else names

-- the names of a look-up: a folder that is not found has none
abbrev pub found_names : Option (BTreeSet (List ℕ)) → List (List ℕ)
found_names None = []
found_names (Some names) = names.keys

-- the names that the map has for a folder
abbrev pub names_at : BTreeMap (List ℕ) (BTreeSet (List ℕ)) → List ℕ → List (List ℕ)
names_at names folder = found_names (get (slice_cmp nat_cmp) names folder)

-- the map has for each folder the names of the paths that are directly in it
abbrev pub HasNames : BTreeMap (List ℕ) (BTreeSet (List ℕ)) → List (List ℕ) → Type 0
HasNames names paths = (folder : List ℕ) → names_at names folder ≡ names_in folder paths

-- the name of the path joined those of its folder, and the other folders have what they had
abbrev pub AddsPath : BTreeMap (List ℕ) (BTreeSet (List ℕ)) → BTreeMap (List ℕ) (BTreeSet (List ℕ)) → List ℕ → Type 0
AddsPath old new path = (folder : List ℕ) → names_at new folder ≡ with_name folder (names_at old folder) path

-- the folder has no names any more, and the other folders have what they had
abbrev pub DropsFolder : BTreeMap (List ℕ) (BTreeSet (List ℕ)) → BTreeMap (List ℕ) (BTreeSet (List ℕ)) → List ℕ → Type 0
DropsFolder old new dropped =
    (folder : List ℕ) → names_at new folder ≡ (if same_text dropped folder then [] else names_at old folder)
