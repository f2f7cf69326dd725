-- When data is an index. The bounds of ids, paths, tags and words are those of their types.
-- Cited by `nm_model_answer`, `nm_state`, `test_index` and others.
use Rattle.std.specs.Prelude.{◌↔◌, ℕ, ◌<◌, ◌≤◌, IsTrue, List, map}
use Rattle.std.specs.List.{AllByRecursion, IsDistinct}
use Rattle.std.specs.List.Sorted.{IsStrictlySortedBy}
use Rattle.std.specs.Ordering.{nat_cmp}
use Rattle.nm_base.specs.Limits.{IsDate}
use Rattle.nm_base.specs.Order.{IsSorted, has_text, same_text}
use Rattle.nm_commit.specs.Files.{has_id, paths_of}
use Rattle.nm_threads.specs.Same.{ids_of}
use Rattle.nm_model_index.specs.Index.{has_entry, is_held, row_cmp, rows_of}
use Rattle.nm_model_index.specs.declared.base.Base.{Base}

-- the ids that have numbers, and these
abbrev pub entry_ids : Base → List (List ℕ)
entry_ids index = map (λ entry. entry.0) index.entries

abbrev pub entry_numbers : Base → List ℕ
entry_numbers index = map (λ entry. entry.1) index.entries

-- the ids that have tags
abbrev pub tagged_ids : Base → List (List ℕ)
tagged_ids index = map (λ tagged. tagged.0) index.tags

pub record IsValid (index : Base) : Type 0 where
  -- no two files are at one path
  pub paths : IsDistinct same_text (paths_of index.files)
  -- the date of each mail is in the range
  pub dates : AllByRecursion (λ file. IsDate file.1.date) index.files
  -- kept rows are in order, each once
  pub rows : IsStrictlySortedBy row_cmp index.kept
  -- no id has two numbers, and numbers rise from 1 up to the next one
  pub ids : IsDistinct same_text (entry_ids index)
  pub rising : IsStrictlySortedBy nat_cmp (entry_numbers index)
  pub numbers : AllByRecursion (λ n. (1 ≤ n) × (n < index.next)) (entry_numbers index)
  pub next : 1 ≤ index.next
  -- each id of a row has a number
  pub numbered : AllByRecursion (λ row. AllByRecursion (λ id. IsTrue (has_entry index id)) (ids_of row)) (rows_of index)
  -- each kept row and each number is of a thread with a live message
  pub kept : AllByRecursion (λ row. IsTrue (is_held index row.id)) index.kept
  pub held : AllByRecursion (λ id. IsTrue (is_held index id)) (entry_ids index)
  -- just the live messages have tags, by the bytes of their ids, and each a set of them
  pub live : (id : List ℕ) → IsTrue (has_text (tagged_ids index) id) ↔ IsTrue (has_id index.files id)
  pub in_order : IsSorted (tagged_ids index)
  pub sets : AllByRecursion (λ tagged. IsSorted tagged.1) index.tags
