-- What goes once the thread of a mail that went has no live message. For the proof of `prune`.
use Rattle.std.proofs.Common.{◌≡◌, refl, sym, ap, subst, ◌∙◌, ℕ, Bool, true, false, ◌&&◌, ◌||◌, not, cond, List, [], ◌∷◌, map, inl, inr, ◌⊎◌, true≢false}
use Rattle.std.specs.Cmp.{both_ways}
use Rattle.std.specs.Prelude.{Contains}
use Rattle.std.specs.List.{filter, list_any}
use Rattle.std.specs.Map.{values_of}
use Rattle.std.proofs.lemmas.Bool.{and_parts, or_left, false_from_ne_true, not-true, not_from_false}
use Rattle.nm_base.specs.Order.{has_text, same_text}
use Rattle.nm_base.specs.declared.facts.Facts.{Facts}
use Rattle.nm_base.specs.declared.facts.LinkRow.{LinkRow}
use Rattle.nm_commit.specs.Files.{has_id}
use Rattle.nm_model_index.specs.Index.{is_held, pruned, row_of, rows_of}
use Rattle.nm_model_index.specs.declared.base.Base.{Base}
use Rattle.nm_threads.specs.Labels.{AreLabelsOf, Labelling, entries_of, has_entry, is_in_rows}
use Rattle.nm_threads.specs.Same.{IsChain, Same, ids_of, is_same, stand_together}
use Rattle.nm_tables.specs.FileTable.{AreFiled, files_in}
use Rattle.nm_tables.specs.Hints.{thread_ids}
use Rattle.nm_tables.specs.Kept.{AreKept}
use Rattle.nm_parts.specs.Parts.{AreLoose, AreParts, AreTagged, base_of}
use Rattle.nm_parts.specs.ThreadLaws.{ThreadLaws}
use Rattle.nm_tables.specs.declared.file_table.FileTable.{FileTable}
use Rattle.nm_parts.specs.declared.parts.Parts.{Parts}
use Rattle.nm_tables.specs.FilterLaws.{filter_same, from_filter, in_filter}
use Rattle.nm_base.specs.KeyLaws.{any_one, any_of, Contains_map, Contains_from_map, same_text_from, same_text_of}
use Rattle.nm_parts.proofs.HeldLemmas.{file_row, kept_row, a_row, held_by, held_from, of_row}

-- ---- what a filter leaves

all_pass : {X : Type 0} (xs : List X) → filter (λ _. true) xs ≡ xs
all_pass [] = refl
all_pass (x ∷ xs) = ap (λ more. x ∷ more) (all_pass xs)

-- ---- a thread that stays keeps its chains

module _ (laws : ThreadLaws) (rows others : List LinkRow) (id : List ℕ) (stay : (row : LinkRow) → Contains rows row → is_same rows id row.id ≡ false → Contains others row) where
  step_stays : (a next : List ℕ) → (Same rows id a → ⊥) → stand_together rows a next ≡ true → (stand_together others a next ≡ true) × (Same rows id next → ⊥)
  step_stays a next apart is =
      let one = any_one (λ (row : LinkRow). has_text (ids_of row) a && has_text (ids_of row) next) rows is in
      let parts = and_parts (has_text (ids_of one.0) a) (has_text (ids_of one.0) next) one.2 in
      let own : has_text (ids_of one.0) one.0.id ≡ true = or_left (same_text one.0.id one.0.id) (has_text one.0.links one.0.id) (same_text_of one.0.id) in
      let other : is_same rows id one.0.id ≡ false =
      false_from_ne_true (is_same rows id one.0.id)
      (λ same. apart (laws.through rows id one.0.id a ((laws.computed rows id one.0.id).0 same) (of_row laws rows one.0 one.1 one.0.id a own parts.0))) in (
        any_of (λ (row : LinkRow). has_text (ids_of row) a && has_text (ids_of row) next) others one.0 (stay one.0 one.1 other) one.2,
        λ same. apart (laws.through rows id next a same (of_row laws rows one.0 one.1 next a parts.1 parts.0)),
      )

  chain_stays : (chain : List (List ℕ)) (a b : List ℕ) → (Same rows id a → ⊥) → IsChain rows a chain b → IsChain others a chain b
  chain_stays [] a b apart is = is
  chain_stays (next ∷ chain) a b apart is = let step = step_stays a next apart is.0 in (step.0, chain_stays chain next b step.1 is.1)

  pub same_stays : (a b : List ℕ) → (Same rows id a → ⊥) → Same rows a b → Same others a b
  same_stays a b apart is = (is.0, chain_stays is.0 a b apart is.1)

-- ---- messages with files

pub live_file : (files : List (List ℕ × Facts)) (id : List ℕ) → has_id files id ≡ true → (file : List ℕ × Facts) × Contains files file × (id ≡ file.1.id)
live_file files id has =
    let one = any_one (same_text id) (map (λ (file : List ℕ × Facts). file.1.id) files) has in
    let file = Contains_from_map (λ (f : List ℕ × Facts). f.1.id) files one.0 one.1 in (file.0, file.1, same_text_from id one.0 one.2 ∙ sym file.2)

pub file_live : (files : List (List ℕ × Facts)) (file : List ℕ × Facts) → Contains files file → has_id files file.1.id ≡ true
file_live files file among =
    any_of (same_text file.1.id) (map (λ (f : List ℕ × Facts). f.1.id) files) file.1.id (Contains_map (λ (f : List ℕ × Facts). f.1.id) files file among) (same_text_of file.1.id)

in_rows : (rows : List LinkRow) (row : LinkRow) → Contains rows row → is_in_rows rows row.id ≡ true
in_rows rows row among = any_of (λ (r : LinkRow). has_text (ids_of r) row.id) rows row among (or_left (same_text row.id row.id) (has_text row.links row.id) (same_text_of row.id))

-- ---- the thread of the id

module _ (laws : ThreadLaws) (old : Parts) (id : List ℕ) (loose : AreLoose old id) where
  -- where the thread has a file, all stays
  module _ (file : List ℕ × Facts) (among : Contains (base_of old).files file) (same : Same (rows_of (base_of old)) id file.1.id) where
    abbrev whole : Base
    whole = base_of old

    still_held : (x : List ℕ) → (is_held whole x ≡ true) ⊎ Same (rows_of whole) x id → is_held whole x ≡ true
    still_held x (inl held) = held
    still_held x (inr of_id) = held_by laws whole x file among (laws.through (rows_of whole) x id file.1.id of_id same)

    all_stays : AreParts old × (whole ≡ pruned whole)
    all_stays =
        let kept : (row : LinkRow) → Contains whole.kept row → is_held whole row.id ≡ true = λ row there. still_held row.id (loose.rows row there) in
        let entries : (entry : List ℕ × ℕ) → Contains whole.entries entry → is_held whole entry.0 ≡ true = λ entry there. still_held entry.0 (loose.entries entry there) in
        let kept_is : whole.kept ≡ filter (λ row. is_held whole row.id) whole.kept = sym (filter_same (λ row. is_held whole row.id) (λ _. true) whole.kept kept ∙ all_pass whole.kept) in
        let entries_is : whole.entries ≡ filter (λ entry. is_held whole entry.0) whole.entries = sym (filter_same (λ entry. is_held whole entry.0) (λ _. true) whole.entries entries ∙ all_pass whole.entries) in
        (record { filed = loose.filed; kept = loose.kept; labels = loose.labels; held = record { rows = kept; entries = entries }; tagged = loose.tagged }, λ i. record whole { kept = kept_is i; entries = entries_is i })

  -- where the message of the id has another file, all stays
  pub stays_by_itself : has_id (files_in old.file_table) id ≡ true → AreParts old × (base_of old ≡ pruned (base_of old))
  stays_by_itself live =
      let file = live_file (base_of old).files id live in all_stays file.0 file.1 (subst (Same (rows_of (base_of old)) id) file.2 (laws.itself (rows_of (base_of old)) id))

module _ (laws : ThreadLaws) (old : Parts) (id : List ℕ) (loose : AreLoose old id) (ids : List (List ℕ))
    (members : (other : List ℕ) → has_text ids other ≡ (has_entry (entries_of old.labels.labels) other && is_same (rows_of (base_of old)) id other)) where
  abbrev index : Base
  index = base_of old

  abbrev rows : List LinkRow
  rows = rows_of index

  member : (other : List ℕ) → is_in_rows rows other ≡ true → has_text ids other ≡ is_same rows id other
  member other known = members other ∙ ap (λ has. has && is_same rows id other) (loose.labels.known other known)

  -- where one of the thread is live, all stays
  stays_by_one : list_any (has_id (base_of old).files) ids ≡ true → AreParts old × (base_of old ≡ pruned (base_of old))
  stays_by_one live =
      let one = any_one (has_id index.files) ids live in
      let there : has_text ids one.0 ≡ true = any_of (same_text one.0) ids one.0 one.1 (same_text_of one.0) in
      let file = live_file index.files one.0 one.2 in
      let same : is_same rows id one.0 ≡ true = (and_parts (has_entry index.entries one.0) (is_same rows id one.0) (sym (members one.0) ∙ there)).1 in
      all_stays laws old id loose file.0 file.1 (subst (Same rows id) file.2 ((laws.computed rows id one.0).0 same))

  -- where none is, what is of the thread goes
  module _ (dead : list_any (has_id (base_of old).files) ids ≡ false) where
    no_file : (file : List ℕ × Facts) → Contains index.files file → Same rows id file.1.id → ⊥
    no_file file among same =
        let known : is_in_rows rows file.1.id ≡ true = in_rows rows (row_of file.1) (file_row index file among) in
        let there = any_one (same_text file.1.id) ids (member file.1.id known ∙ (laws.computed rows id file.1.id).1 same) in
        true≢false (sym (any_of (has_id index.files) ids there.0 there.1 (subst (λ x. has_id index.files x ≡ true) (same_text_from file.1.id there.0 there.2) (file_live index.files file among))) ∙ dead)

    other_file : (file : List ℕ × Facts) → Contains index.files file → is_same rows id file.1.id ≡ false
    other_file file among = false_from_ne_true (is_same rows id file.1.id) (λ is. no_file file among ((laws.computed rows id file.1.id).0 is))

    held_is : (x : List ℕ) → (is_held index x ≡ true) ⊎ Same rows x id → is_held index x ≡ not (is_same rows id x)
    held_is x why =
        both_ways (is_held index x) (not (is_same rows id x))
        (λ held. let file = held_from laws index x held in
        not_from_false (is_same rows id x) (false_from_ne_true (is_same rows id x) (λ same. no_file file.0 file.1 (laws.through rows id x file.0.1.id ((laws.computed rows id x).0 same) file.2))))
        (λ other. elim why [
          | inl held ↦ held
          | inr same ↦ absurd (true≢false (sym ((laws.computed rows id x).1 (laws.turned rows x id same)) ∙ not-true (is_same rows id x) other))
        ])

    module _ (new : Parts) (revision : new.revision ≡ old.revision) (file_table : new.file_table ≡ old.file_table) (tags : new.tags ≡ old.tags) (next : new.labels.next ≡ old.labels.next)
        (entries : entries_of new.labels.labels ≡ filter (λ entry. not (is_same (rows_of (base_of old)) id entry.0)) (entries_of old.labels.labels))
        (labels : AreLabelsOf (filter (λ row. not (is_same (rows_of (base_of old)) id row.id)) (rows_of (base_of old))) new.labels.labels) (kept : AreKept new.kept)
        (kept_is : values_of new.kept ≡ filter (λ row. not (has_text ids row.id)) (values_of old.kept)) where
      abbrev after : Base
      after = base_of new

      row_member : (row : LinkRow) → Contains index.kept row → has_text ids row.id ≡ is_same rows id row.id
      row_member row among = member row.id (in_rows rows row (kept_row index row among))

      files_same : after.files ≡ index.files
      files_same = ap (λ f. values_of f.files) file_table

      pruned_kept : after.kept ≡ filter (λ row. is_held index row.id) index.kept
      pruned_kept =
          kept_is ∙ filter_same (λ row. not (has_text ids row.id)) (λ row. is_held index row.id) index.kept (λ row among. ap not (row_member row among) ∙ sym (held_is row.id (loose.rows row among)))

      pruned_entries : after.entries ≡ filter (λ entry. is_held index entry.0) index.entries
      pruned_entries = entries ∙ filter_same (λ entry. not (is_same rows id entry.0)) (λ entry. is_held index entry.0) index.entries (λ entry among. sym (held_is entry.0 (loose.entries entry among)))

      -- the rows that stay
      stays : (row : LinkRow) → Contains rows row → is_same rows id row.id ≡ false → Contains (rows_of after) row
      stays row among other = elim (a_row index row among) [
        | inl of_file ↦ subst (λ r. Contains (rows_of after) r) of_file.2 (file_row after of_file.0 (subst (λ fs. Contains fs of_file.0) (sym files_same) of_file.1))
        | inr in_kept ↦
            kept_row after row
            (subst (λ all. Contains all row) (sym kept_is) (in_filter (λ (r : LinkRow). not (has_text ids r.id)) index.kept row in_kept (not_from_false (has_text ids row.id) (row_member row in_kept ∙ other))))
      ]

      stayed : (row : LinkRow) → Contains (rows_of after) row → Contains (filter (λ row. not (is_same rows id row.id)) rows) row
      stayed row among = elim (a_row after row among) [
        | inl of_file ↦
            let before : Contains index.files of_file.0 = subst (λ fs. Contains fs of_file.0) files_same of_file.1 in
            subst (λ r. Contains (filter (λ row. not (is_same rows id row.id)) rows) r) of_file.2
            (in_filter (λ (r : LinkRow). not (is_same rows id r.id)) rows (row_of of_file.0.1) (file_row index of_file.0 before) (not_from_false (is_same rows id of_file.0.1.id) (other_file of_file.0 before)))
        | inr in_kept ↦
            let before = from_filter (λ (r : LinkRow). not (has_text ids r.id)) index.kept row (subst (λ all. Contains all row) kept_is in_kept) in
            in_filter (λ (r : LinkRow). not (is_same rows id r.id)) rows row (kept_row index row before.0) (ap not (sym (row_member row before.0)) ∙ before.1)
      ]

      held_after : (x : List ℕ) → is_held index x ≡ true → is_held after x ≡ true
      held_after x held =
          let file = held_from laws index x held in
          held_by laws after x file.0 (subst (λ fs. Contains fs file.0) (sym files_same) file.1)
          (same_stays laws rows (rows_of after) id stays x file.0.1.id (λ same. no_file file.0 file.1 (laws.through rows id x file.0.1.id same file.2)) file.2)

      thread_gone : AreParts new × (after ≡ pruned index)
      thread_gone = (
        record {
          filed = subst (λ f. AreFiled f) (sym file_table) loose.filed;
          kept = kept;
          labels = laws.unordered (filter (λ row. not (is_same rows id row.id)) rows) (rows_of after) new.labels.labels
              (λ row among. let before = from_filter (λ (r : LinkRow). not (is_same rows id r.id)) rows row among in stays row before.0 (not-true (is_same rows id row.id) before.1)) stayed labels;
          held = record {
            rows = λ row among. held_after row.id (from_filter (λ (r : LinkRow). is_held index r.id) index.kept row (subst (λ all. Contains all row) pruned_kept among)).1;
            entries = λ entry among. held_after entry.0 (from_filter (λ (e : List ℕ × ℕ). is_held index e.0) index.entries entry (subst (λ all. Contains all entry) pruned_entries among)).1;
          };
          tagged = subst (λ (f : FileTable). AreTagged (files_in f) new.tags) (sym file_table) (subst (λ all. AreTagged (files_in old.file_table) all) (sym tags) loose.tagged);
        },
        λ i. record {
          revision = revision i;
          next = next i;
          files = files_same i;
          kept = pruned_kept i;
          entries = pruned_entries i;
          tags = tags i;
        },
      )

-- ---- the ids of a thread

agreed : (same passes rest : Bool) (has : Bool) → passes ≡ same → rest ≡ (has && same) → cond passes (true || rest) rest ≡ same
agreed true true rest has is more = refl
agreed true false rest has is more = absurd (true≢false (sym is))
agreed false true rest has is more = absurd (true≢false is)
agreed false false rest true is more = more
agreed false false rest false is more = more

either_way : (found same passes has rest : Bool) → (found ≡ true → passes ≡ same) → rest ≡ (has && same) → cond passes (found || rest) rest ≡ ((found || has) && same)
either_way true same passes has rest agree is = agreed same passes rest has (agree refl) is
either_way false same true has rest agree is = is
either_way false same false has rest agree is = is

any_cond : (other : List ℕ) (e : List ℕ × ℕ) (rest : List (List ℕ × ℕ)) (test : Bool) → has_text (map (λ entry. entry.0) (cond test (e ∷ rest) rest)) other
    ≡ cond test (same_text other e.0 || has_text (map (λ entry. entry.0) rest) other) (has_text (map (λ entry. entry.0) rest) other)
any_cond other e rest true = refl
any_cond other e rest false = refl

thread_has : (those : List LinkRow) (id other : List ℕ) (entries : List (List ℕ × ℕ)) → has_text (map (λ entry. entry.0) (filter (λ entry. is_same those id entry.0) entries)) other ≡ (has_entry entries other && is_same those id other)
thread_has those id other [] = refl
thread_has those id other (e ∷ entries) =
    any_cond other e (filter (λ entry. is_same those id entry.0) entries) (is_same those id e.0)
    ∙ either_way (same_text other e.0) (is_same those id other) (is_same those id e.0) (has_entry entries other) (has_text (map (λ entry. entry.0) (filter (λ entry. is_same those id entry.0) entries)) other)
    (λ found. ap (is_same those id) (sym (same_text_from other e.0 found))) (thread_has those id other entries)

-- the ids of the thread are those that have a number and are of it
members_are : (old : Parts) (id other : List ℕ) → has_text (thread_ids (rows_of (base_of old)) (entries_of old.labels.labels) id) other ≡ (has_entry (entries_of old.labels.labels) other && is_same (rows_of (base_of old)) id other)
members_are old id other = thread_has (rows_of (base_of old)) id other (entries_of old.labels.labels)

-- ---- by the labels as they are handed back

module _ (laws : ThreadLaws) (old : Parts) (id : List ℕ) (loose : AreLoose old id) (labels : Labelling) (same : labels ≡ old.labels) where
  abbrev ids : List (List ℕ)
  ids = thread_ids (rows_of (base_of old)) (entries_of old.labels.labels) id

  abbrev handed : Parts
  handed = record { revision = old.revision; file_table = old.file_table; kept = old.kept; labels = labels; tags = old.tags }

  own : AreLabelsOf (rows_of (base_of old)) labels.labels
  own = subst (λ (l : Labelling). AreLabelsOf (rows_of (base_of old)) l.labels) (sym same) loose.labels

  -- where one of the thread is live, all stays
  pub live_stays : list_any (has_id (files_in old.file_table)) (thread_ids (rows_of (base_of old)) (entries_of old.labels.labels) id) ≡ true → AreParts handed × (base_of handed ≡ pruned (base_of old))
  live_stays live =
      let all = stays_by_one laws old id loose ids (members_are old id) live in
      subst (λ (l : Labelling). AreParts (record old { labels = l }) × (base_of (record old { labels = l }) ≡ pruned (base_of old))) (sym same) all

  -- where none is, the thread is dropped
  module _ (dead : List (List ℕ)) (are : (dead ≡ thread_ids (rows_of (base_of old)) (entries_of old.labels.labels) id) × (list_any (has_id (files_in old.file_table)) dead ≡ false))
      (new : Parts) (revision : new.revision ≡ old.revision) (file_table : new.file_table ≡ old.file_table) (tags : new.tags ≡ old.tags) (next : new.labels.next ≡ labels.next)
      (entries : (rows : List LinkRow) → AreLabelsOf rows labels.labels → entries_of new.labels.labels ≡ filter (λ entry. not (is_same rows id entry.0)) (entries_of labels.labels))
      (left : (rows : List LinkRow) → AreLabelsOf rows labels.labels → AreLabelsOf (filter (λ row. not (is_same rows id row.id)) rows) new.labels.labels) (kept : AreKept new.kept)
      (kept_is : values_of new.kept ≡ filter (λ row. not (has_text dead row.id)) (values_of old.kept)) where
    pub dead_goes : AreParts new × (base_of new ≡ pruned (base_of old))
    dead_goes =
        thread_gone laws old id loose ids (members_are old id) (ap (list_any (has_id (files_in old.file_table))) (sym are.0) ∙ are.1) new revision file_table tags (next ∙ ap (λ (l : Labelling). l.next) same)
        (entries (rows_of (base_of old)) own ∙ ap (λ (l : Labelling). filter (λ (entry : List ℕ × ℕ). not (is_same (rows_of (base_of old)) id entry.0)) (entries_of l.labels)) same) (left (rows_of (base_of old)) own) kept
        (kept_is ∙ ap (λ (all : List (List ℕ)). filter (λ (row : LinkRow). not (has_text all row.id)) (values_of old.kept)) are.0)
