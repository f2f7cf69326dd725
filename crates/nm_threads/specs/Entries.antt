-- Entries from which labels are made anew. Cited by `entries`, `labels`, `nm_state` and others.
use Rattle.std.specs.Prelude.{ℕ, ◌<◌, ◌≤◌, ◌^◌, IsTrue, List, map}
use Rattle.std.specs.Borrow.{Bor}
use Rattle.std.specs.List.{AllByRecursion, IsDistinct}
use Rattle.std.specs.List.Sorted.{IsStrictlySortedBy}
use Rattle.std.specs.Ordering.{nat_cmp}
use Rattle.nm_base.specs.Order.{same_text}
use Rattle.nm_base.specs.declared.facts.LinkRow.{LinkRow}
use Rattle.nm_threads.specs.Labels.{has_entry}
use Rattle.nm_threads.specs.Same.{ids_of}

-- no id twice, numbers that rise from 1 up to the next one, and a number for each id of the rows
pub record AreEntriesOf (rows : List LinkRow) (entries : List (List ℕ × ℕ)) (next : ℕ) : Type 0 where
  pub ids : IsDistinct same_text (map (λ entry. entry.0) entries)
  pub rising : IsStrictlySortedBy nat_cmp (map (λ entry. entry.1) entries)
  pub numbers : AllByRecursion (λ n. (1 ≤ n) × (n < next)) (map (λ entry. entry.1) entries)
  pub known : AllByRecursion (λ row. AllByRecursion (λ id. IsTrue (has_entry entries id)) (ids_of row)) rows
  pub bounds : (1 ≤ next) × (next ≤ 2 ^ 63)

-- what an id that is handed out with its number is
abbrev pub id_and_number : Bor (List ℕ) × ℕ → List ℕ × ℕ
id_and_number entry = (entry.0.now, entry.1)
