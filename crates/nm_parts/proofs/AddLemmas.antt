-- A mail that comes: its numbers, its tags, its row, and what is held then.
-- For the proofs of `add_mail` and `move_mail`.
use Rattle.std.proofs.Common.{◌≡◌, refl, sym, ap, subst, ◌∙◌, ℕ, ◌+◌, Bool, true, false, cond, List, [], ◌∷◌, ◌++◌, map, inl, inr, ◌⊎◌, if◌then◌else◌}
use Rattle.std.specs.Prelude.{Contains}
use Rattle.std.specs.BTreeMap.{insert_entry}
use Rattle.std.specs.Cmp.Lexicographic.{slice_cmp}
use Rattle.std.specs.Map.{values_of}
use Rattle.std.specs.Ordering.{nat_cmp}
use Rattle.std.proofs.lemmas.Bool.{or_left, or_right}
use Rattle.nm_base.specs.Order.{has_text, same_text}
use Rattle.nm_base.specs.declared.facts.Facts.{Facts}
use Rattle.nm_base.specs.declared.facts.LinkRow.{LinkRow}
use Rattle.nm_commit.specs.Files.{has_id, moved_path, with_moved}
use Rattle.nm_model_index.specs.Index.{first_tags, is_held, row_of, rows_of, with_mail}
use Rattle.nm_model_index.specs.declared.base.Base.{Base}
use Rattle.nm_threads.specs.Labels.{AreLabelsOf, Label, Labelling, entries_of, numbered}
use Rattle.nm_threads.specs.Labels as labels
use Rattle.nm_tables.specs.FileTable.{AreFiled, files_in}
use Rattle.nm_tables.specs.Kept.{AreKept}
use Rattle.nm_parts.specs.Parts.{AreHeld, AreParts, AreTagged, base_of}
use Rattle.nm_parts.specs.ThreadLaws.{ThreadLaws}
use Rattle.nm_parts.specs.declared.parts.Parts.{Parts}
use Rattle.nm_base.specs.KeyLaws.{Contains_first, Contains_there, Contains_cases, Contains_map, Contains_none, same_text_of, text_same}
use Rattle.nm_parts.proofs.ListLemmas.{in_left, in_right, in_either}
use Rattle.nm_parts.proofs.HeldLemmas.{file_row, kept_row, a_row, held_by, held_more, of_row}
use Rattle.nm_parts.proofs.TagLemmas.{moved_tagged}
use Rattle.nm_parts.specs.MailLaws.{mailed_is}

-- ---- numbers

one_by : (test : Bool) (id : List ℕ) (ids : List (List ℕ)) (entries : List (List ℕ × ℕ)) (next : ℕ) (entry : List ℕ × ℕ) → (Contains (numbered entries next ids).0 entry → Contains entries entry ⊎ (has_text ids entry.0 ≡ true))
    → (Contains (numbered (entries ++ (id, next) ∷ []) (next + 1) ids).0 entry → Contains (entries ++ (id, next) ∷ []) entry ⊎ (has_text ids entry.0 ≡ true))
    → Contains (cond test (numbered entries next ids) (numbered (entries ++ (id, next) ∷ []) (next + 1) ids)).0 entry → Contains entries entry ⊎ (has_text (id ∷ ids) entry.0 ≡ true)
one_by true id ids entries next entry old new among = elim (old among) [ inl there ↦ inl there | inr has ↦ inr (or_right (same_text entry.0 id) (has_text ids entry.0) has) ]
one_by false id ids entries next entry old new among = elim (new among) [
  | inl there ↦
      elim (in_either entries ((id, next) ∷ []) entry there) [
        | inl before ↦ inl before
        | inr last ↦
            inr
            (or_left (same_text entry.0 id) (has_text ids entry.0)
            (elim (Contains_cases (id, next) [] entry last) [ inl here ↦ text_same entry.0 id (sym (ap (λ e. e.0) here)) | inr none ↦ absurd (Contains_none entry none) ]))
      ]
  | inr has ↦ inr (or_right (same_text entry.0 id) (has_text ids entry.0) has)
]

-- what has a number had it, or is one of the ids
numbered_one : (ids : List (List ℕ)) (entries : List (List ℕ × ℕ)) (next : ℕ) (entry : List ℕ × ℕ) → Contains (numbered entries next ids).0 entry → Contains entries entry ⊎ (has_text ids entry.0 ≡ true)
numbered_one [] entries next entry among = inl among
numbered_one (id ∷ ids) entries next entry among = one_by (labels.has_entry entries id) id ids entries next entry (numbered_one ids entries next entry) (numbered_one ids (entries ++ (id, next) ∷ []) (next + 1) entry) among

-- ---- what is held once the mail is there

module _ (laws : ThreadLaws) (old new : Base) (path : List ℕ) (facts : Facts) (files : new.files ≡ old.files ++ (path, facts) ∷ []) (kept : new.kept ≡ old.kept) where
  new_file : Contains new.files (path, facts)
  new_file = subst (λ fs. Contains fs (path, facts)) (sym files) (in_right old.files ((path, facts) ∷ []) (path, facts) (Contains_first (path, facts) []))

  old_file : (file : List ℕ × Facts) → Contains old.files file → Contains new.files file
  old_file file among = subst (λ fs. Contains fs file) (sym files) (in_left old.files ((path, facts) ∷ []) file among)

  pub old_rows : (row : LinkRow) → Contains (rows_of old) row → Contains (rows_of new) row
  old_rows row among = elim (a_row old row among) [
    | inl of_file ↦ subst (λ r. Contains (rows_of new) r) of_file.2 (file_row new of_file.0 (old_file of_file.0 of_file.1))
    | inr among_kept ↦ kept_row new row (subst (λ rows. Contains rows row) (sym kept) among_kept)
  ]

  pub new_rows : (row : LinkRow) → Contains (row_of facts ∷ rows_of old) row → Contains (rows_of new) row
  new_rows row among = elim (Contains_cases (row_of facts) (rows_of old) row among) [
    | inl here ↦ subst (λ r. Contains (rows_of new) r) here (file_row new (path, facts) new_file)
    | inr there ↦ old_rows row there
  ]

  file_cases : (file : List ℕ × Facts) → Contains new.files file → Contains old.files file ⊎ ((path, facts) ≡ file)
  file_cases file among = elim (in_either old.files ((path, facts) ∷ []) file (subst (λ fs. Contains fs file) files among)) [
    | inl before ↦ inl before
    | inr last ↦ elim (Contains_cases (path, facts) [] file last) [ inl here ↦ inr here | inr none ↦ absurd (Contains_none file none) ]
  ]

  pub all_rows : (row : LinkRow) → Contains (rows_of new) row → Contains (row_of facts ∷ rows_of old) row
  all_rows row among = elim (a_row new row among) [
    | inl of_file ↦
        elim (file_cases of_file.0 of_file.1) [
          | inl before ↦ Contains_there (row_of facts) (rows_of old) row (subst (λ r. Contains (rows_of old) r) of_file.2 (file_row old of_file.0 before))
          | inr last ↦ subst (λ r. Contains (row_of facts ∷ rows_of old) r) (ap (λ (f : List ℕ × Facts). row_of f.1) last ∙ of_file.2) (Contains_first (row_of facts) (rows_of old))
        ]
    | inr among_kept ↦ Contains_there (row_of facts) (rows_of old) row (kept_row old row (subst (λ rows. Contains rows row) kept among_kept))
  ]

  pub mailed_held : AreHeld old → new.entries ≡ (numbered old.entries old.next (facts.id ∷ facts.links)).0 → AreHeld new
  mailed_held held entries =
      let more : (id : List ℕ) → is_held old id ≡ true → is_held new id ≡ true = held_more laws old new old_rows (λ file among. (file, old_file file among, refl)) in
      record {
        rows = λ row among. more row.id (held.rows row (subst (λ rows. Contains rows row) kept among));
        entries = λ entry among. elim (numbered_one (facts.id ∷ facts.links) old.entries old.next entry (subst (λ es. Contains es entry) entries among)) [
          | inl before ↦ more entry.0 (held.entries entry before)
          | inr has ↦
              held_by laws new entry.0 (path, facts) new_file
              (of_row laws (rows_of new) (row_of facts) (file_row new (path, facts) new_file) entry.0 facts.id has (or_left (same_text facts.id facts.id) (has_text facts.links facts.id) (same_text_of facts.id)))
        ];
      }

-- the parts once the mail is there
pub mail_added : (laws : ThreadLaws) (old new : Parts) (path : List ℕ) (facts : Facts) → AreParts old → new.revision ≡ old.revision → new.kept ≡ old.kept → AreFiled new.file_table → files_in new.file_table ≡ files_in old.file_table ++ (path, facts) ∷ []
    → (entries_of new.labels.labels, new.labels.next) ≡ numbered (entries_of old.labels.labels) old.labels.next (facts.id ∷ facts.links)
    → ((rows : List LinkRow) → AreLabelsOf rows old.labels.labels → AreLabelsOf (row_of facts ∷ rows) new.labels.labels)
    → new.tags ≡ (if has_id (files_in old.file_table) facts.id then old.tags else insert_entry (slice_cmp nat_cmp) old.tags facts.id (first_tags facts.marks))
    → AreTagged (files_in old.file_table ++ (path, facts) ∷ []) new.tags → AreParts new × (base_of new ≡ with_mail (base_of old) path facts)
mail_added laws old new path facts are revision kept filed files numbers label tags tagged = (
  record {
    filed = filed;
    kept = subst AreKept (sym kept) are.kept;
    labels = laws.unordered (row_of facts ∷ rows_of (base_of old)) (rows_of (base_of new)) new.labels.labels (new_rows laws (base_of old) (base_of new) path facts files (ap values_of kept))
        (all_rows laws (base_of old) (base_of new) path facts files (ap values_of kept)) (label (rows_of (base_of old)) are.labels);
    held = mailed_held laws (base_of old) (base_of new) path facts files (ap values_of kept) are.held (ap (λ all. all.0) numbers);
    tagged = subst (λ fs. AreTagged fs new.tags) (sym files) tagged;
  },
  (λ i. record {
    revision = revision i;
    next = (numbers i).1;
    files = files i;
    kept = values_of (kept i);
    entries = (numbers i).0;
    tags = tags i;
  }) ∙ sym (mailed_is (base_of old) path facts),
)

-- ---- a move

same_rows : (files : List (List ℕ × Facts)) (from to : List ℕ) → map (λ file. row_of file.1) (with_moved files from to) ≡ map (λ file. row_of file.1) files
same_rows [] from to = refl
same_rows (file ∷ files) from to = ap (λ rows. row_of file.1 ∷ rows) (same_rows files from to)

-- the parts once a file has another path
pub file_moved : (laws : ThreadLaws) (old new : Parts) (from to : List ℕ) → AreParts old → new.kept ≡ old.kept → new.labels ≡ old.labels → new.tags ≡ old.tags → AreFiled new.file_table → files_in new.file_table ≡ with_moved (files_in old.file_table) from to → AreParts new
file_moved laws old new from to are kept labels tags filed files =
    let rows : rows_of (base_of new) ≡ rows_of (base_of old) = ap (λ fs. map (λ (file : List ℕ × Facts). row_of file.1) fs ++ values_of new.kept) files ∙ (λ i. same_rows (files_in old.file_table) from to i ++ values_of (kept i)) in
    let more : (id : List ℕ) → is_held (base_of old) id ≡ true → is_held (base_of new) id ≡ true =
    held_more laws (base_of old) (base_of new) (λ row among. subst (λ all. Contains all row) (sym rows) among)
    (λ file among. (
      (moved_path from to file.0, file.1),
      subst (λ fs. Contains fs (moved_path from to file.0, file.1)) (sym files) (Contains_map (λ (f : List ℕ × Facts). (moved_path from to f.0, f.1)) (files_in old.file_table) file among),
      refl,
    )) in
    record {
      filed = filed;
      kept = subst AreKept (sym kept) are.kept;
      labels = subst (λ l. AreLabelsOf (rows_of (base_of new)) l.labels) (sym labels) (subst (λ all. AreLabelsOf all old.labels.labels) (sym rows) are.labels);
      held = record {
        rows = λ row among. more row.id (are.held.rows row (subst (λ all. Contains (values_of all) row) kept among));
        entries = λ entry among. more entry.0 (are.held.entries entry (subst (λ (l : Labelling). Contains (entries_of l.labels) entry) labels among));
      };
      tagged = subst (λ all. AreTagged (files_in new.file_table) all) (sym tags) (subst (λ fs. AreTagged fs old.tags) (sym files) (moved_tagged (files_in old.file_table) from to old.tags are.tagged));
    }
