-- A file that is taken out, its row kept. For the proofs of `drop_mail` and `take_out`.
use Rattle.std.proofs.Common.{◌≡◌, ◌≢◌, sym, ap, subst, ◌∙◌, ℕ, true, not, List, [], ◌∷◌, inl, inr, ◌⊎◌}
use Rattle.std.specs.Prelude.{Contains}
use Rattle.std.specs.BTreeSet.{insert_key}
use Rattle.std.specs.Map.{values_of}
use Rattle.std.specs.Ordering.{match_ordering}
use Rattle.std.specs.declared.cmp.Ordering.{Ordering}
use Rattle.std.specs.declared.cmp.Ordering.TheVariants.{Less, Equal, Greater}
use Rattle.std.proofs.lemmas.Bool.{or_left, cases_Bool}
use Rattle.nm_base.specs.Order.{has_text, same_text}
use Rattle.nm_base.specs.declared.facts.Facts.{Facts}
use Rattle.nm_base.specs.declared.facts.LinkRow.{LinkRow}
use Rattle.nm_commit.specs.Files.{has_id, without_path}
use Rattle.nm_model_index.specs.Index.{is_held, row_cmp, row_of, rows_of}
use Rattle.nm_model_index.specs.declared.base.Base.{Base}
use Rattle.nm_threads.specs.Labels.{AreLabelsOf, Labelling, entries_of}
use Rattle.nm_threads.specs.Same.{Same, ids_of}
use Rattle.nm_tables.specs.FileTable.{AreFiled, files_in, lying_in}
use Rattle.nm_tables.specs.Kept.{AreKept}
use Rattle.nm_parts.specs.Parts.{AreLoose, AreParts, AreTagged, base_of}
use Rattle.nm_parts.specs.ThreadLaws.{ThreadLaws}
use Rattle.nm_parts.specs.declared.parts.Parts.{Parts}
use Rattle.nm_base.specs.KeyLaws.{any_of, Contains_first, Contains_there, Contains_cases, Contains_none, same_text_of}
use Rattle.nm_parts.proofs.HeldLemmas.{file_row, kept_row, a_row, held_by, held_from}
use Rattle.nm_parts.proofs.PruneLemmas.{file_live}
use Rattle.nm_tables.specs.FilterLaws.{from_filter, in_filter}
use Rattle.nm_parts.proofs.TagLemmas.{others_live}

-- ---- a row among others in order

old_by : (row e : LinkRow) (rows : List LinkRow) (answer : Ordering) (x : LinkRow) → Contains (e ∷ rows) x → (Contains rows x → Contains (insert_key row_cmp rows row) x)
    → Contains (match_ordering answer (row ∷ e ∷ rows) (e ∷ rows) (e ∷ insert_key row_cmp rows row)) x
old_by row e rows Less x among more = Contains_there row (e ∷ rows) x among
old_by row e rows Equal x among more = among
old_by row e rows Greater x among more = elim (Contains_cases e rows x among) [
  | inl here ↦ subst (λ y. Contains (e ∷ insert_key row_cmp rows row) y) here (Contains_first e (insert_key row_cmp rows row))
  | inr there ↦ Contains_there e (insert_key row_cmp rows row) x (more there)
]

-- what was there is there
old_row : (row : LinkRow) (rows : List LinkRow) (x : LinkRow) → Contains rows x → Contains (insert_key row_cmp rows row) x
old_row row [] x among = absurd (Contains_none x among)
old_row row (e ∷ rows) x among = old_by row e rows (row_cmp row e) x among (old_row row rows x)

new_by : (row e : LinkRow) (rows : List LinkRow) (answer : Ordering) (x : LinkRow) → Contains (match_ordering answer (row ∷ e ∷ rows) (e ∷ rows) (e ∷ insert_key row_cmp rows row)) x
    → (Contains (insert_key row_cmp rows row) x → (row ≡ x) ⊎ Contains rows x) → (row ≡ x) ⊎ Contains (e ∷ rows) x
new_by row e rows Less x among more = Contains_cases row (e ∷ rows) x among
new_by row e rows Equal x among more = inr among
new_by row e rows Greater x among more = elim (Contains_cases e (insert_key row_cmp rows row) x among) [
  | inl here ↦ inr (subst (λ y. Contains (e ∷ rows) y) here (Contains_first e rows))
  | inr there ↦ elim (more there) [ inl new ↦ inl new | inr old ↦ inr (Contains_there e rows x old) ]
]

-- what is there is the row, or was there
new_row : (row : LinkRow) (rows : List LinkRow) (x : LinkRow) → Contains (insert_key row_cmp rows row) x → (row ≡ x) ⊎ Contains rows x
new_row row [] x among = Contains_cases row [] x among
new_row row (e ∷ rows) x among = new_by row e rows (row_cmp row e) x among (new_row row rows x)

-- ---- the index without the file

module _ (laws : ThreadLaws) (old new : Parts) (path : List ℕ) (facts : Facts) (are : AreParts old) (filed : AreFiled new.file_table) (kept : AreKept new.kept) (labels : new.labels ≡ old.labels)
    (files : files_in new.file_table ≡ without_path (files_in old.file_table) path) (lying : lying_in (files_in old.file_table) path ≡ (path, facts) ∷ [])
    (rows : values_of new.kept ≡ insert_key row_cmp (values_of old.kept) (row_of facts)) (there : Contains (values_of new.kept) (row_of facts))
    (untagged : (files : List (List ℕ × Facts)) → AreTagged files old.tags → has_id files facts.id ≡ true → ((other : List ℕ) → other ≢ facts.id → has_id (files_in new.file_table) other ≡ has_id files other) → AreTagged (files_in new.file_table) new.tags) where
  abbrev before : Base
  before = base_of old

  abbrev after : Base
  after = base_of new

  the_file : Contains before.files (path, facts)
  the_file = (from_filter (λ (file : List ℕ × Facts). same_text path file.0) before.files (path, facts) (subst (λ fs. Contains fs (path, facts)) (sym lying) (Contains_first (path, facts) []))).0

  -- a file was another one, or this one
  file_by : (file : List ℕ × Facts) → Contains before.files file → Contains after.files file ⊎ ((path, facts) ≡ file)
  file_by file among = elim (cases_Bool (same_text path file.0)) [
    | inl same ↦
        elim (Contains_cases (path, facts) [] file (subst (λ fs. Contains fs file) lying (in_filter (λ (f : List ℕ × Facts). same_text path f.0) before.files file among same))) [
          | inl here ↦ inr here
          | inr none ↦ absurd (Contains_none file none)
        ]
    | inr other ↦ inl (subst (λ fs. Contains fs file) (sym files) (in_filter (λ (f : List ℕ × Facts). not (same_text path f.0)) before.files file among (ap not other)))
  ]

  file_before : (file : List ℕ × Facts) → Contains after.files file → Contains before.files file
  file_before file among = (from_filter (λ (f : List ℕ × Facts). not (same_text path f.0)) before.files file (subst (λ fs. Contains fs file) files among)).0

  kept_before : (row : LinkRow) → Contains before.kept row → Contains after.kept row
  kept_before row among = subst (λ all. Contains all row) (sym rows) (old_row (row_of facts) before.kept row among)

  rows_after : (row : LinkRow) → Contains (rows_of before) row → Contains (rows_of after) row
  rows_after row among = elim (a_row before row among) [
    | inl of_file ↦
        elim (file_by of_file.0 of_file.1) [
          | inl stays ↦ subst (λ r. Contains (rows_of after) r) of_file.2 (file_row after of_file.0 stays)
          | inr here ↦ subst (λ r. Contains (rows_of after) r) (ap (λ (f : List ℕ × Facts). row_of f.1) here ∙ of_file.2) (kept_row after (row_of facts) there)
        ]
    | inr in_kept ↦ kept_row after row (kept_before row in_kept)
  ]

  rows_before : (row : LinkRow) → Contains (rows_of after) row → Contains (rows_of before) row
  rows_before row among = elim (a_row after row among) [
    | inl of_file ↦ subst (λ r. Contains (rows_of before) r) of_file.2 (file_row before of_file.0 (file_before of_file.0 of_file.1))
    | inr in_kept ↦
        elim (new_row (row_of facts) before.kept row (subst (λ all. Contains all row) rows in_kept)) [
          | inl here ↦ subst (λ r. Contains (rows_of before) r) here (file_row before (path, facts) the_file)
          | inr was ↦ kept_row before row was
        ]
  ]

  -- what was held is held, or is of the thread of the mail
  held_or : (x : List ℕ) → is_held before x ≡ true → (is_held after x ≡ true) ⊎ Same (rows_of after) x facts.id
  held_or x held =
      let by = held_from laws before x held in
      let same : Same (rows_of after) x by.0.1.id = laws.among (rows_of before) (rows_of after) x by.0.1.id rows_after by.2 in
      elim (file_by by.0 by.1) [ inl stays ↦ inl (held_by laws after x by.0 stays same) | inr here ↦ inr (subst (Same (rows_of after) x) (sym (ap (λ (f : List ℕ × Facts). f.1.id) here)) same) ]

  kept_or : (row : LinkRow) → Contains after.kept row → (is_held after row.id ≡ true) ⊎ Same (rows_of after) row.id facts.id
  kept_or row among = elim (new_row (row_of facts) before.kept row (subst (λ all. Contains all row) rows among)) [
    | inl here ↦ inr (subst (λ x. Same (rows_of after) x facts.id) (ap (λ (r : LinkRow). r.id) here) (laws.itself (rows_of after) facts.id))
    | inr was ↦ held_or row.id (are.held.rows row was)
  ]

  pub taken : AreLoose new facts.id
  taken = record {
    filed = filed;
    kept = kept;
    labels = subst (λ (l : Labelling). AreLabelsOf (rows_of after) l.labels) (sym labels) (laws.unordered (rows_of before) (rows_of after) old.labels.labels rows_after rows_before are.labels);
    known = any_of (λ (row : LinkRow). has_text (ids_of row) facts.id) (rows_of after) (row_of facts) (kept_row after (row_of facts) there)
        (or_left (same_text facts.id facts.id) (has_text facts.links facts.id) (same_text_of facts.id));
    rows = kept_or;
    entries = λ entry among. held_or entry.0 (are.held.entries entry (subst (λ (l : Labelling). Contains (entries_of l.labels) entry) labels among));
    tagged = untagged before.files are.tagged (file_live before.files (path, facts) the_file) (λ other not. ap (λ fs. has_id fs other) files ∙ others_live before.files path facts lying other not);
  }
