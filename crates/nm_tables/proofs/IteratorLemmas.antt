-- The paths and the files of a message as they are read. For the proofs of `files_of` and `paths_of`.
use Rattle.std.proofs.Common.{◌≡◌, refl, sym, ap, ◌∙◌, ℕ, Bool, true, false, cond, List, [], ◌∷◌}
use Rattle.std.specs.Prelude.{Contains, Option, Some, None}
use Rattle.std.specs.List.{filter, filter_map, list_any}
use Rattle.std.specs.List.Sorted.{IsStrictlySortedBy}
use Rattle.std.specs.BTreeMap.{is_at}
use Rattle.std.specs.Cmp.Lexicographic.{slice_cmp}
use Rattle.std.specs.Map.{keys_of, values_of}
use Rattle.std.specs.Option.{is_some}
use Rattle.std.specs.Ordering.{nat_cmp}
use Rattle.std.proofs.lemmas.Map.Made.{is_some-lookup}
use Rattle.std.proofs.lemmas.Map.Text.{is_eq-slice_cmp}
use Rattle.std.proofs.lemmas.Option.{none-some, same_Some}
use Rattle.nm_base.specs.Order.{has_text, same_text}
use Rattle.nm_base.specs.declared.facts.Facts.{Facts}
use Rattle.nm_commit.specs.Files.{has_id, has_path}
use Rattle.nm_tables.specs.FileTable.{AreFiled, at_place, at_text, files_at_places, files_in, places_of, told}
use Rattle.nm_tables.specs.declared.file_table.FileTable.{FileTable}
use Rattle.nm_base.specs.KeyLaws.{Contains_first, Contains_there}
use Rattle.nm_tables.specs.FoundLaws.{found_at}
use Rattle.nm_tables.proofs.FileTableLemmas.{has_place, has_places, map_cond}

keys_have : (places : List (List ℕ × ℕ)) (path : List ℕ) → has_text (keys_of places) path ≡ is_some (at_text path places)
keys_have places path = sym (is_some-lookup (is_at (slice_cmp nat_cmp path)) places ∙ (λ i. list_any (λ key. is_eq-slice_cmp path key i) (keys_of places)))

-- the paths are those of the files
pub paths_are : (file_table : FileTable) (are : AreFiled file_table) (paths : List (List ℕ)) → paths ≡ keys_of file_table.places → (path : List ℕ) → has_text paths path ≡ has_path (files_in file_table) path
paths_are file_table are paths is path = ap (λ all. has_text all path) is ∙ keys_have file_table.places path ∙ has_place file_table are path

told_some : (xs ps : List ℕ) → told xs ≡ Some ps → ps ≡ xs
told_some [] ps is = absurd (none-some ps is)
told_some (x ∷ xs) ps is = sym (same_Some (x ∷ xs) ps is)

map_file : {X : Type 0} (f : ℕ → Option X) (test : Bool) (n : ℕ) (x : X) (places : List ℕ) (rest : List X) → f n ≡ Some x → filter_map f places ≡ rest → filter_map f (cond test (n ∷ places) places) ≡ cond test (x ∷ rest) rest
map_file f true n x places rest is more = rw is (ap (λ xs. x ∷ xs) more)
map_file f false n x places rest is more = more

there_all : (all es : List (ℕ × (List ℕ × Facts))) (id : List ℕ) → IsStrictlySortedBy nat_cmp (keys_of all) → ((e : ℕ × (List ℕ × Facts)) → Contains es e → Contains all e)
    → files_at_places all (places_of es id) ≡ filter (λ file. same_text id file.1.id) (values_of es)
there_all all [] id sorted among = refl
there_all all (e ∷ es) id sorted among =
    ap (files_at_places all) (map_cond (same_text id e.1.1.id) e (filter (λ file. same_text id file.1.1.id) es))
    ∙ map_file (λ place. at_place place all) (same_text id e.1.1.id) e.0 e.1 (places_of es id) (filter (λ file. same_text id file.1.id) (values_of es)) (found_at all sorted e (among e (Contains_first e es)))
    (there_all all es id sorted (λ x there. among x (Contains_there e es x there)))

-- the files at the places of a message are its files
pub files_there : (file_table : FileTable) (are : AreFiled file_table) (id : List ℕ) (places : List ℕ) → Some places ≡ at_text id file_table.of_id → files_at_places file_table.files places ≡ filter (λ file. same_text id file.1.id) (files_in file_table)
files_there file_table are id places is =
    ap (files_at_places file_table.files) (told_some (places_of file_table.files id) places (sym (are.ids id) ∙ sym is)) ∙ there_all file_table.files file_table.files id are.sorted (λ e among. among)

pub no_files : (file_table : FileTable) (are : AreFiled file_table) (id : List ℕ) → None ≡ at_text id file_table.of_id → has_id (files_in file_table) id ≡ false
no_files file_table are id is = sym (has_places file_table are id) ∙ ap is_some (sym is)
