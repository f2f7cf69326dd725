-- The steps of rows: an id of a row that is looked up, and an id that is relabelled. What relabelling the smaller side costs in all:
-- each time an id is relabelled its thread has twice as many ids, or more.
-- Cited by `labels` and `rows`.
use Rattle.std.specs.Prelude.{ℕ, ◌+◌, ◌-◌, ◌*◌, ◌≤◌, min, List, [], ◌∷◌, ◌++◌, length}
use Rattle.std.specs.List.{flat_map, sum_by}
use Rattle.nm_base.specs.declared.facts.LinkRow.{LinkRow}
use Rattle.nm_threads.specs.Labels.{Label, named, numbered}
use Rattle.nm_threads.specs.Name.{thread_numbers}
use Rattle.nm_threads.specs.Same.{ids_of}

-- how many ids the thread of an id has, once its row has come with these links: after these rows, with these entries and next number
abbrev pub len_with : List LinkRow → List (List ℕ × ℕ) × ℕ → List ℕ → List (List ℕ) → ℕ
len_with rows old id links = length (thread_numbers ((record { id = id; links = links }) ∷ rows) (numbered old.0 old.1 (id ∷ links)).0 id)

-- the steps of a row's further links: each is looked up, and of the ids that the thread had and those that the link brings to it the
-- fewer are relabelled
abbrev pub link_steps : List LinkRow → List (List ℕ × ℕ) × ℕ → List ℕ → List (List ℕ) → List (List ℕ) → ℕ
link_steps rows old id links [] = 0
link_steps rows old id links (link ∷ more) =
    1 + min (len_with rows old id links) (len_with rows old id (links ++ link ∷ []) - len_with rows old id links) + link_steps rows old id (links ++ link ∷ []) more

-- the steps of a row that comes after these rows: its mail's id is looked up, then its links
abbrev pub row_steps : List LinkRow → List (List ℕ × ℕ) × ℕ → LinkRow → ℕ
row_steps rows old row = 1 + link_steps rows old row.id [] row.links

-- the steps of rows that come one after the other, when these have come after the others
abbrev pub rows_steps : List LinkRow → List (List ℕ × ℕ) × ℕ → List LinkRow → List LinkRow → ℕ
rows_steps others old rows [] = 0
rows_steps others old rows (row ∷ more) = row_steps (rows ++ others) (numbered old.0 old.1 (flat_map ids_of rows)) row + rows_steps others old (rows ++ row ∷ []) more

-- a number that rises with another, and by one at least where that is doubled, as the logarithm to base two does
pub record Doubles (f : ℕ → ℕ) : Type 0 where
  pub rises : (m n : ℕ) → m ≤ n → f m ≤ f n
  pub doubles : (n : ℕ) → 1 ≤ n → f n + 1 ≤ f (2 * n)

-- the sum, over all ids, of that number of the size of the id's thread; for the logarithm it is n log n at most
abbrev pub potential : (ℕ → ℕ) → List Label → ℕ
potential f labels = sum_by (λ label. f (length (named label.name labels))) labels
