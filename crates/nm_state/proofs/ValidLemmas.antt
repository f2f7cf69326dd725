-- The index that the parts make is valid. For the proofs of `base_of` and `a_snapshot_is_a_valid_index`.
use Rattle.std.proofs.Common.{◌≡◌, refl, sym, ap, subst, ◌∙◌, ℕ, ◌<◌, ◌≤◌, true, false, List, [], ◌∷◌, map, arith, true≢false}
use Rattle.std.specs.Prelude.{Contains, IsTrue}
use Rattle.std.specs.Cmp.Lexicographic.{slice_cmp}
use Rattle.std.specs.List.{AllByRecursion, IsDistinct}
use Rattle.std.specs.List.Sorted.{IsStrictlySortedBy}
use Rattle.std.specs.Map.{keys_of, values_of}
use Rattle.std.specs.Ordering.{is_eq, nat_cmp}
use Rattle.std.specs.declared.cmp.Ordering.TheVariants.{Less}
use Rattle.nm_base.specs.Limits.{IsDate}
use Rattle.nm_base.specs.Order.{IsSorted, has_text, same_text}
use Rattle.nm_base.specs.declared.facts.Facts.{Facts}
use Rattle.nm_base.specs.declared.facts.LinkRow.{LinkRow}
use Rattle.nm_commit.specs.Files.{has_id, paths_of}
use Rattle.nm_model_index.specs.Index.{has_entry, is_held, row_bytes, row_cmp, rows_of}
use Rattle.nm_model_index.specs.Valid.{IsValid}
use Rattle.nm_threads.specs.Labels.{IsLabelling, Label, entries_of}
use Rattle.nm_threads.specs.Same.{ids_of}
use Rattle.nm_tables.specs.FileTable.{AreFiled, at_text, files_in}
use Rattle.nm_parts.specs.Parts.{AreParts, base_of}
use Rattle.nm_parts.specs.declared.parts.Parts.{Parts}
use Rattle.nm_base.specs.KeyLaws.{Contains_first, Contains_there, Contains_map, Contains_from_map, all_at, all_from, any_of, same_number, same_text_of, text_other}
use Rattle.nm_state.proofs.TagLemmas.{found_is}
use Rattle.nm_tables.specs.FoundLaws.{found_at, not_first, sorted_rest, value_found}
use Rattle.std.proofs.lemmas.Option.{same_Some}
use Rattle.std.specs.Prelude.{Some}

-- ---- no two files are at one path

distinct_by : (es : List (ℕ × (List ℕ × Facts))) → IsStrictlySortedBy nat_cmp (keys_of es)
    → ((a b : ℕ × (List ℕ × Facts)) → Contains es a → Contains es b → a.1.0 ≡ b.1.0 → a.0 ≡ b.0) → IsDistinct same_text (paths_of (values_of es))
unfolding IsDistinct
distinct_by [] sorted one = tt
distinct_by (e ∷ es) sorted one = (
  all_from (λ path. same_text e.1.0 path ≡ false) (paths_of (values_of es))
      (λ path among.
      let file = Contains_from_map (λ (f : List ℕ × Facts). f.0) (values_of es) path among in
      let entry = Contains_from_map (λ (x : ℕ × (List ℕ × Facts)). x.1) es file.0 file.1 in
      let is : entry.0.1.0 ≡ path = ap (λ (f : List ℕ × Facts). f.0) entry.2 ∙ file.2 in
      text_other e.1.0 path (λ same. not_first e es sorted entry.0 entry.1 (one e entry.0 (Contains_first e es) (Contains_there e es entry.0 entry.1) (same ∙ sym is)))),
  distinct_by es (sorted_rest e es sorted) (λ a b first second. one a b (Contains_there e es a first) (Contains_there e es b second)),
)

distinct_paths : (parts : Parts) → AreFiled parts.file_table → IsDistinct same_text (paths_of (files_in parts.file_table))
distinct_paths parts are =
    distinct_by parts.file_table.files are.sorted
    (λ a b first second same.
    let at_a : at_text a.1.0 parts.file_table.places ≡ Some a.0 = are.kept a.0 a.1.0 a.1.1 (found_at parts.file_table.files are.sorted a first) in
    let at_b : at_text b.1.0 parts.file_table.places ≡ Some b.0 = are.kept b.0 b.1.0 b.1.1 (found_at parts.file_table.files are.sorted b second) in
    same_Some a.0 b.0 (sym at_a ∙ ap (λ path. at_text path parts.file_table.places) same ∙ at_b))

-- ---- kept rows are in order

sorted_rows : (kept : List (List ℕ × LinkRow)) → IsStrictlySortedBy (slice_cmp nat_cmp) (keys_of kept) → ((e : List ℕ × LinkRow) → Contains kept e → e.0 ≡ row_bytes e.1) → IsStrictlySortedBy row_cmp (values_of kept)
unfolding IsStrictlySortedBy
sorted_rows [] sorted keyed = tt
sorted_rows (e ∷ kept) sorted keyed = (
  all_from (λ row. row_cmp e.1 row ≡ Less) (values_of kept)
      (λ row among.
      let entry = Contains_from_map (λ (x : List ℕ × LinkRow). x.1) kept row among in
      let first : row_bytes e.1 ≡ e.0 = sym (keyed e (Contains_first e kept)) in
      let second : row_bytes row ≡ entry.0.0 = sym (keyed entry.0 (Contains_there e kept entry.0 entry.1) ∙ ap row_bytes entry.2) in
      (λ i. slice_cmp nat_cmp (first i) (second i)) ∙ all_at (λ key. slice_cmp nat_cmp e.0 key ≡ Less) (keys_of kept) sorted.0 entry.0.0 (Contains_map (λ (x : List ℕ × LinkRow). x.0) kept entry.0 entry.1)),
  sorted_rows kept sorted.1 (λ x among. keyed x (Contains_there e kept x among)),
)

-- ---- ids and numbers

numbers_same : (labels : List Label) → map (λ label. label.number) labels ≡ map (λ entry. entry.1) (entries_of labels)
numbers_same [] = refl
numbers_same (label ∷ labels) = ap (λ more. label.number ∷ more) (numbers_same labels)

distinct_ids : (labels : List Label) → IsStrictlySortedBy nat_cmp (map (λ label. label.number) labels) → ((a b : Label) → Contains labels a → Contains labels b → a.id ≡ b.id → a ≡ b)
    → IsDistinct same_text (map (λ entry. entry.0) (entries_of labels))
unfolding IsStrictlySortedBy IsDistinct
distinct_ids [] rising one = tt
distinct_ids (a ∷ labels) rising one = (
  all_from (λ id. same_text a.id id ≡ false) (map (λ entry. entry.0) (entries_of labels))
      (λ id among.
      let entry = Contains_from_map (λ (e : List ℕ × ℕ). e.0) (entries_of labels) id among in
      let label = Contains_from_map (λ (l : Label). (l.id, l.number)) labels entry.0 entry.1 in
      let is : label.0.id ≡ id = ap (λ (e : List ℕ × ℕ). e.0) label.2 ∙ entry.2 in
      let less : nat_cmp a.number label.0.number ≡ Less = all_at (λ n. nat_cmp a.number n ≡ Less) (map (λ l. l.number) labels) rising.0 label.0.number (Contains_map (λ (l : Label). l.number) labels label.0 label.1) in
      text_other a.id id
      (λ same. true≢false (sym (same_number a.number label.0.number (ap (λ (l : Label). l.number) (one a label.0 (Contains_first a labels) (Contains_there a labels label.0 label.1) (same ∙ sym is)))) ∙ ap is_eq less))),
  distinct_ids labels rising.1 (λ b c first second. one b c (Contains_there a labels b first) (Contains_there a labels c second)),
)

-- ---- all of it

pub parts_valid : (parts : Parts) → AreParts parts → IsLabelling parts.labels → (1 ≤ parts.labels.next) → IsSorted (keys_of parts.tags) → IsValid (base_of parts)
parts_valid parts are labelling least sorted =
    let index = base_of parts in
    let entries : List (List ℕ × ℕ) = entries_of parts.labels.labels in
    record {
      paths = distinct_paths parts are.filed;
      dates = all_from (λ file. IsDate file.1.date) (files_in parts.file_table)
          (λ file among.
          let entry = Contains_from_map (λ (x : ℕ × (List ℕ × Facts)). x.1) parts.file_table.files file among in
          subst (λ (f : List ℕ × Facts). IsDate f.1.date) entry.2 (are.filed.dated entry.0.0 entry.0.1 (found_at parts.file_table.files are.filed.sorted entry.0 entry.1)));
      rows = sorted_rows parts.kept are.kept.sorted are.kept.keyed;
      ids = distinct_ids parts.labels.labels labelling.rising labelling.ids;
      rising = subst (IsStrictlySortedBy nat_cmp) (numbers_same parts.labels.labels) labelling.rising;
      numbers = all_from (λ n. (1 ≤ n) × (n < parts.labels.next)) (map (λ entry. entry.1) entries)
          (λ n among.
          let entry = Contains_from_map (λ (e : List ℕ × ℕ). e.1) entries n among in
          let label = Contains_from_map (λ (l : Label). (l.id, l.number)) parts.labels.labels entry.0 entry.1 in
          let is : label.0.number ≡ n = ap (λ (e : List ℕ × ℕ). e.1) label.2 ∙ entry.2 in
          let below = labelling.below label.0 label.1 in ((omega (arith, is, below.0)), (omega (arith, is, below.1))));
      next = least;
      numbered = all_from (λ row. AllByRecursion (λ id. IsTrue (has_entry index id)) (ids_of row)) (rows_of index)
          (λ row among. all_from (λ id. IsTrue (has_entry index id)) (ids_of row)
          (λ id in_row. are.labels.known id
          (any_of (λ (r : LinkRow). has_text (ids_of r) id) (rows_of index) row among (any_of (same_text id) (ids_of row) id in_row (same_text_of id)))));
      kept = all_from (λ row. IsTrue (is_held index row.id)) index.kept are.held.rows;
      held = all_from (λ id. IsTrue (is_held index id)) (map (λ entry. entry.0) entries)
          (λ id among. let entry = Contains_from_map (λ (e : List ℕ × ℕ). e.0) entries id among in subst (λ x. is_held index x ≡ true) entry.2 (are.held.entries entry.0 entry.1));
      live = λ id. let same : has_text (keys_of parts.tags) id ≡ has_id (files_in parts.file_table) id = sym (found_is parts.tags id) ∙ are.tagged.live id in (λ has. sym same ∙ has, λ has. same ∙ has);
      in_order = sorted;
      sets = all_from (λ tagged. IsSorted tagged.1) parts.tags (λ tagged among. are.tagged.sets tagged.0 tagged.1 (value_found parts.tags sorted tagged among));
    }
