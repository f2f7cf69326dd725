-- The files of an index in the maps that they are kept in. Each has a place, and places rise in the order of arrival.
-- Cited by `file_table`, `places`, `nm_parts` and others.
use Rattle.std.specs.Prelude.{◌≡◌, ℕ, ◌<◌, ◌==◌, not, List, [], ◌∷◌, map, filter, Option, Some, None, unwrap_or}
use Rattle.std.specs.BTreeMap.{is_at}
use Rattle.std.specs.Cmp.Lexicographic.{slice_cmp}
use Rattle.std.specs.List.{filter_map}
use Rattle.std.specs.List.Sorted.{IsStrictlySortedBy}
use Rattle.std.specs.Map.{keys_of, lookup, values_of}
use Rattle.std.specs.Ordering.{nat_cmp}
use Rattle.nm_base.specs.Limits.{IsDate}
use Rattle.nm_base.specs.Order.{same_text}
use Rattle.nm_base.specs.declared.facts.Facts.{Facts}
use Rattle.nm_tables.specs.declared.file_table.FileTable.{FileTable}

-- what a map has for a text
abbrev pub at_text : {V : Type 0} → List ℕ → List (List ℕ × V) → Option V
at_text text entries = lookup (is_at (slice_cmp nat_cmp text)) entries

-- what a map has for a place
abbrev pub at_place : {V : Type 0} → ℕ → List (ℕ × V) → Option V
at_place place entries = lookup (is_at (nat_cmp place)) entries

-- the places of the files of a message
abbrev pub places_of : List (ℕ × (List ℕ × Facts)) → List ℕ → List ℕ
places_of files id = map (λ file. file.0) (filter (λ file. same_text id file.1.1.id) files)

-- the places but this one
abbrev pub without_place : List ℕ → ℕ → List ℕ
without_place places place = filter (λ other. not (other == place)) places

-- some places, or nothing where there is none
abbrev pub told : List ℕ → Option (List ℕ)
told [] = None
told (place ∷ places) = Some (place ∷ places)

-- the places that are known
abbrev pub told_places : List (List ℕ × List ℕ) → List ℕ → List ℕ
told_places of_id id = unwrap_or (at_text id of_id) []

-- the files in the order of their arrival
abbrev pub files_in : FileTable → List (List ℕ × Facts)
files_in file_table = values_of file_table.files

-- the files at some places, in the order of the places
abbrev pub files_at_places : List (ℕ × (List ℕ × Facts)) → List ℕ → List (List ℕ × Facts)
files_at_places files places = filter_map (λ place. at_place place files) places

-- the files that are at a path
abbrev pub lying_in : List (List ℕ × Facts) → List ℕ → List (List ℕ × Facts)
lying_in files path = filter (λ file. same_text path file.0) files

-- the maps agree: files by rising places below the next one, each with a date in the range, the place of each path, the places
-- of each message
pub record AreFiled (file_table : FileTable) : Type 0 where
  pub sorted : IsStrictlySortedBy nat_cmp (keys_of file_table.files)
  pub below : (place : ℕ) (file : List ℕ × Facts) → at_place place file_table.files ≡ Some file → place < file_table.next
  pub dated : (place : ℕ) (file : List ℕ × Facts) → at_place place file_table.files ≡ Some file → IsDate file.1.date
  pub found : (path : List ℕ) (place : ℕ) → at_text path file_table.places ≡ Some place → (facts : Facts) × (at_place place file_table.files ≡ Some (path, facts))
  pub kept : (place : ℕ) (path : List ℕ) (facts : Facts) → at_place place file_table.files ≡ Some (path, facts) → at_text path file_table.places ≡ Some place
  pub ids : (id : List ℕ) → at_text id file_table.of_id ≡ told (places_of file_table.files id)
