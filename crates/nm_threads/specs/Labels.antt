-- Labels: of each id that has a number, that number and the name of its thread.
-- Cited by `dead`, `labels`, `nm_state` and others.
use Rattle.std.specs.Prelude.{◌≡◌, ℕ, ◌+◌, ◌<◌, ◌≤◌, Bool, ◌==◌, ◌&&◌, not, List, [], ◌∷◌, ◌++◌, length, map, IsTrue, Some, Contains, if◌then◌else◌}
use Rattle.std.specs.List.{filter, list_any}
use Rattle.std.specs.List.Sorted.{IsStrictlySortedBy}
use Rattle.std.specs.Ordering.{nat_cmp}
use Rattle.nm_base.specs.Order.{has_text, same_text}
use Rattle.nm_base.specs.declared.facts.LinkRow.{LinkRow}
use Rattle.nm_threads.specs.Same.{ids_of}
use Rattle.nm_threads.specs.Name.{thread_name}

-- an id, its number, and the name of its thread
pub record Label : Type 0 where
  pub id : List ℕ
  pub number : ℕ
  pub name : ℕ

-- the labels by rising number, and the number that the next id gets
pub record Labelling : Type 0 where
  pub labels : List Label
  pub next : ℕ

-- the ids and their numbers
abbrev pub entries_of : List Label → List (List ℕ × ℕ)
entries_of labels = map (λ label. (label.id, label.number)) labels

-- the id has a number
abbrev pub has_entry : List (List ℕ × ℕ) → List ℕ → Bool
has_entry entries id = list_any (λ entry. same_text id entry.0) entries

-- the labels of the thread of this name
abbrev pub named : ℕ → List Label → List Label
named name labels = filter (λ label. label.name == name) labels

-- the labels of the other threads than that of this name
abbrev pub without_name : ℕ → List Label → List Label
without_name name labels = filter (λ label. not (label.name == name)) labels

-- the id is of the thread of this name
abbrev pub is_named : List Label → ℕ → List ℕ → Bool
is_named labels name id = list_any (λ label. same_text id label.id && label.name == name) labels

-- the labels of the threads that have one of these ids
abbrev pub held_labels : List (List ℕ) → List Label → List Label
held_labels ids labels = filter (λ label. list_any (is_named labels label.name) ids) labels

-- how many ids the thread of an id has
abbrev pub thread_len : List ℕ → List Label → ℕ
thread_len id labels = length (held_labels (id ∷ []) labels)

-- the entries, and the next number, once each of these ids has a number: those that lack one get the next ones, in order
abbrev pub numbered : List (List ℕ × ℕ) → ℕ → List (List ℕ) → List (List ℕ × ℕ) × ℕ
numbered entries next [] = (entries, next)
numbered entries next (id ∷ more) = if has_entry entries id then numbered entries next more else numbered (entries ++ (id, next) ∷ []) (next + 1) more

-- the id is in one of the rows
abbrev pub is_in_rows : List LinkRow → List ℕ → Bool
is_in_rows rows id = list_any (λ row. has_text (ids_of row) id) rows

-- these are the labels of the rows: each id of a row has one, and each tells the name of its thread
pub record AreLabelsOf (rows : List LinkRow) (labels : List Label) : Type 0 where
  pub known : (id : List ℕ) → IsTrue (is_in_rows rows id) → IsTrue (has_entry (entries_of labels) id)
  pub names : (label : Label) → Contains labels label → thread_name rows (entries_of labels) label.id ≡ Some label.name

-- one label an id, one a number, by rising number, and all numbers below the next one
pub record IsLabelling (labelling : Labelling) : Type 0 where
  pub rising : IsStrictlySortedBy nat_cmp (map (λ label. label.number) labelling.labels)
  pub ids : (a b : Label) → Contains labelling.labels a → Contains labelling.labels b → a.id ≡ b.id → a ≡ b
  pub numbers : (a b : Label) → Contains labelling.labels a → Contains labelling.labels b → a.number ≡ b.number → a ≡ b
  pub below : (a : Label) → Contains labelling.labels a → (1 ≤ a.number) × (a.number < labelling.next)
