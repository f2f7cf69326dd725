-- Rows of an index, and what its live messages hold. For `AddLemmas`, `PruneLemmas` and `TakeLemmas`.
use Rattle.std.proofs.Common.{◌≡◌, sym, subst, ℕ, true, ◌&&◌, List, map, inl, inr, ◌⊎◌}
use Rattle.std.specs.Prelude.{Contains}
use Rattle.std.proofs.lemmas.Bool.{and_from}
use Rattle.nm_base.specs.Order.{has_text}
use Rattle.nm_base.specs.declared.facts.Facts.{Facts}
use Rattle.nm_base.specs.declared.facts.LinkRow.{LinkRow}
use Rattle.nm_model_index.specs.Index.{is_held, row_of, rows_of}
use Rattle.nm_model_index.specs.declared.base.Base.{Base}
use Rattle.nm_threads.specs.Same.{ids_of, Same, is_same}
use Rattle.nm_parts.specs.ThreadLaws.{ThreadLaws}
use Rattle.nm_base.specs.KeyLaws.{any_one, any_of, Contains_map, Contains_from_map}
use Rattle.nm_parts.proofs.ListLemmas.{in_left, in_right, in_either}

-- ---- rows

pub file_row : (index : Base) (file : List ℕ × Facts) → Contains index.files file → Contains (rows_of index) (row_of file.1)
file_row index file among = in_left (map (λ f. row_of f.1) index.files) index.kept (row_of file.1) (Contains_map (λ (f : List ℕ × Facts). row_of f.1) index.files file among)

pub kept_row : (index : Base) (row : LinkRow) → Contains index.kept row → Contains (rows_of index) row
kept_row index row among = in_right (map (λ f. row_of f.1) index.files) index.kept row among

pub a_row : (index : Base) (row : LinkRow) → Contains (rows_of index) row → ((file : List ℕ × Facts) × Contains index.files file × (row_of file.1 ≡ row)) ⊎ Contains index.kept row
a_row index row among = elim (in_either (map (λ f. row_of f.1) index.files) index.kept row among) [
  | inl of_file ↦ inl (Contains_from_map (λ (f : List ℕ × Facts). row_of f.1) index.files row of_file)
  | inr kept ↦ inr kept
]

-- ---- what is held

module _ (laws : ThreadLaws) where
  pub held_by : (index : Base) (id : List ℕ) (file : List ℕ × Facts) → Contains index.files file → Same (rows_of index) id file.1.id → is_held index id ≡ true
  held_by index id file among same = any_of (λ f. is_same (rows_of index) id f.1.id) index.files file among ((laws.computed (rows_of index) id file.1.id).1 same)

  pub held_from : (index : Base) (id : List ℕ) → is_held index id ≡ true → (file : List ℕ × Facts) × Contains index.files file × Same (rows_of index) id file.1.id
  held_from index id held =
      let one = any_one (λ (f : List ℕ × Facts). is_same (rows_of index) id f.1.id) index.files held in (one.0, one.1, (laws.computed (rows_of index) id one.0.1.id).0 one.2)

  -- with the same rows and more, and the same messages, all that was held is held
  pub held_more : (old new : Base) → ((row : LinkRow) → Contains (rows_of old) row → Contains (rows_of new) row)
      → ((file : List ℕ × Facts) → Contains old.files file → (other : List ℕ × Facts) × Contains new.files other × (other.1.id ≡ file.1.id)) → (id : List ℕ) → is_held old id ≡ true → is_held new id ≡ true
  held_more old new rows files id held =
      let by = held_from old id held in
      let other = files by.0 by.1 in
      held_by new id other.0 other.1 (subst (Same (rows_of new) id) (sym other.2) (laws.among (rows_of old) (rows_of new) id by.0.1.id rows by.2))

  -- the ids of a row are of one thread
  pub of_row : (rows : List LinkRow) (row : LinkRow) → Contains rows row → (a b : List ℕ) → has_text (ids_of row) a ≡ true → has_text (ids_of row) b ≡ true → Same rows a b
  of_row rows row among a b first second =
      laws.beside rows a b (any_of (λ (r : LinkRow). has_text (ids_of r) a && has_text (ids_of r) b) rows row among (and_from (has_text (ids_of row) a) (has_text (ids_of row) b) first second))
