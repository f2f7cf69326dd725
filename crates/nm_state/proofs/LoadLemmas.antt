-- A snapshot made of an index as data: each list goes into its map in its own order.
-- For the proofs of `file_all`, `keep_all`, `parts_of` and others.
use Rattle.std.proofs.Common.{◌≡◌, refl, sym, ap, subst, ◌∙◌, ℕ, zero, suc, ◌+◌, ◌<◌, ◌≤◌, ◌^◌, true, false, List, [], ◌∷◌, ◌++◌, length, map, take, arith}
use Rattle.std.proofs.lemmas.Bool.{or_from}
use Rattle.std.specs.Prelude.{slice_index_or, IsTrue}
use Rattle.std.specs.BTreeMap.{insert_entry}
use Rattle.std.specs.BTreeSet.{insert_key}
use Rattle.std.specs.Cmp.Lexicographic.{slice_cmp}
use Rattle.std.specs.List.{AllByRecursion, IsDistinct}
use Rattle.std.specs.List.Sorted.{IsStrictlySortedBy}
use Rattle.std.specs.Map.{keys_of, values_of}
use Rattle.std.specs.Ordering.{match_ordering, nat_cmp, ordering_reverse}
use Rattle.std.specs.declared.cmp.Ordering.TheVariants.{Less, Greater}
use Rattle.std.proofs.lemmas.Cmp.{nat_list_cmp_total}
use Rattle.std.proofs.lemmas.List.{take_more}
use Rattle.std.proofs.lemmas.Map.Keys.{IsDistinct-head, IsDistinct-tail}
use Rattle.nm_base.specs.Order.{IsSorted, same_text}
use Rattle.nm_base.specs.declared.facts.Facts.{Facts}
use Rattle.nm_base.specs.declared.facts.LinkRow.{LinkRow}
use Rattle.nm_commit.specs.Files.{has_path, paths_of}
use Rattle.nm_model_index.specs.Index.{is_held, row_bytes, row_cmp, row_of, rows_of}
use Rattle.nm_model_index.specs.Valid.{IsValid}
use Rattle.nm_model_index.specs.declared.base.Base.{Base}
use Rattle.nm_threads.specs.Entries.{AreEntriesOf}
use Rattle.nm_threads.specs.Labels.{AreLabelsOf, entries_of}
use Rattle.nm_tables.specs.FileTable.{AreFiled, files_in}
use Rattle.nm_tables.specs.Kept.{AreKept}
use Rattle.nm_parts.specs.Parts.{AreHeld, AreParts, AreTagged, base_of}
use Rattle.nm_parts.specs.declared.parts.Parts.{Parts}
use Rattle.nm_base.specs.KeyLaws.{Contains_map, all_at, text_other, text_same}
use Rattle.nm_state.proofs.TagLemmas.{opened_tagged}

-- ---- files

module _ {X K : Type 0} (key : X → K) where
  at_index : (P : K → Type 0) (xs : List X) (i : ℕ) (d : X) → AllByRecursion P (map key xs) → i < length xs → P (key (slice_index_or xs i d))
  at_index P [] i d all lt = absurd (omega (arith, lt))
  at_index P (x ∷ xs) zero d all lt = all.0
  at_index P (x ∷ xs) (suc i) d all lt = at_index P xs i d all.1 (omega (arith, lt))

other_way : (a b : List ℕ) → same_text a b ≡ false → same_text b a ≡ false
other_way a b is = text_other b a (λ same. absurd (let yes : same_text a b ≡ true = text_same a b (sym same) in let no : true ≡ false = sym yes ∙ is in cc))

path_is_free : (files : List (List ℕ × Facts)) (i : ℕ) (d : List ℕ × Facts) → IsDistinct same_text (paths_of files) → i < length files → has_path (take i files) (slice_index_or files i d).0 ≡ false
path_is_free [] i d distinct lt = absurd (omega (arith, lt))
path_is_free (file ∷ files) zero d distinct lt = refl
path_is_free (file ∷ files) (suc i) d distinct lt =
    let x : List ℕ = (slice_index_or files i d).0 in
    or_from (same_text x file.0) (has_path (take i files) x)
    (other_way file.0 x (at_index (λ (f : List ℕ × Facts). f.0) (λ y. same_text file.0 y ≡ false) files i d (IsDistinct-head same_text file.0 (paths_of files) distinct) (omega (arith, lt))))
    (path_is_free files i d (IsDistinct-tail same_text file.0 (paths_of files) distinct) (omega (arith, lt)))

-- no file so far is at the path of the next one
pub next_is_free : (files so_far : List (List ℕ × Facts)) (i : ℕ) (file : List ℕ × Facts) → IsDistinct same_text (paths_of files) → i < length files → so_far ≡ take i files → file ≡ slice_index_or files i file → has_path so_far file.0 ≡ false
next_is_free files so_far i file distinct lt is item =
    ap (λ fs. has_path fs file.0) is ∙ ap (λ (f : List ℕ × Facts). has_path (take i files) f.0) item ∙ path_is_free files i file distinct lt

pub one_more_file : (files so_far new : List (List ℕ × Facts)) (i : ℕ) (file : List ℕ × Facts) → i < length files → so_far ≡ take i files → file ≡ slice_index_or files i file → new ≡ so_far ++ (file.0, file.1) ∷ [] → new ≡ take (i + 1) files
one_more_file files so_far new i file lt is item more = more ∙ ap (λ fs. fs ++ file ∷ []) is ∙ ap (λ f. take i files ++ f ∷ []) item ∙ sym (take_more files i file lt)

-- ---- kept rows

row_at : (row : LinkRow) (rows : List LinkRow) (i : ℕ) (d : LinkRow) → AllByRecursion (λ y. row_cmp row y ≡ Less) rows → i < length rows → row_cmp row (slice_index_or rows i d) ≡ Less
row_at row [] i d all lt = absurd (omega (arith, lt))
row_at row (x ∷ rows) zero d all lt = all.0
row_at row (x ∷ rows) (suc i) d all lt = row_at row rows i d all.1 (omega (arith, lt))

last_row : (rows : List LinkRow) (i : ℕ) (d : LinkRow) → IsStrictlySortedBy row_cmp rows → i < length rows → insert_key row_cmp (take i rows) (slice_index_or rows i d) ≡ take i rows ++ slice_index_or rows i d ∷ []
unfolding IsStrictlySortedBy
last_row [] i d sorted lt = absurd (omega (arith, lt))
last_row (row ∷ rows) zero d sorted lt = refl
last_row (row ∷ rows) (suc i) d sorted lt =
    let x : LinkRow = slice_index_or rows i d in
    let above : row_cmp x row ≡ Greater = nat_list_cmp_total.antisymm (row_bytes x) (row_bytes row) ∙ ap ordering_reverse (row_at row rows i d sorted.0 (omega (arith, lt))) in
    ap (λ answer. match_ordering answer (x ∷ row ∷ take i rows) (row ∷ take i rows) (row ∷ insert_key row_cmp (take i rows) x)) above ∙ ap (λ more. row ∷ more) (last_row rows i d sorted.1 (omega (arith, lt)))

-- each row goes after those before it
pub one_more_row : (rows so_far new : List LinkRow) (i : ℕ) (row copied : LinkRow) → IsStrictlySortedBy row_cmp rows → i < length rows → so_far ≡ take i rows → row ≡ slice_index_or rows i row → copied ≡ row → new ≡ insert_key row_cmp so_far copied → new ≡ take (i + 1) rows
one_more_row rows so_far new i row copied sorted lt is item copy more =
    more ∙ (λ j. insert_key row_cmp (is j) ((copy ∙ item) j)) ∙ last_row rows i row sorted lt ∙ sym (take_more rows i row lt)

-- ---- tags

last_tags : (tags : List (List ℕ × List (List ℕ))) (i : ℕ) (d : List ℕ × List (List ℕ)) → IsSorted (keys_of tags) → i < length tags
    → insert_entry (slice_cmp nat_cmp) (take i tags) (slice_index_or tags i d).0 (slice_index_or tags i d).1 ≡ take i tags ++ slice_index_or tags i d ∷ []
unfolding IsStrictlySortedBy
last_tags [] i d sorted lt = absurd (omega (arith, lt))
last_tags (first ∷ tags) zero d sorted lt = refl
last_tags (first ∷ tags) (suc i) d sorted lt =
    let x : List ℕ × List (List ℕ) = slice_index_or tags i d in
    let below : slice_cmp nat_cmp first.0 x.0 ≡ Less = at_index (λ (t : List ℕ × List (List ℕ)). t.0) (λ y. slice_cmp nat_cmp first.0 y ≡ Less) tags i d sorted.0 (omega (arith, lt)) in
    let above : slice_cmp nat_cmp x.0 first.0 ≡ Greater = nat_list_cmp_total.antisymm x.0 first.0 ∙ ap ordering_reverse below in
    ap (λ answer. match_ordering answer (x ∷ first ∷ take i tags) ((first.0, x.1) ∷ take i tags) (first ∷ insert_entry (slice_cmp nat_cmp) (take i tags) x.0 x.1)) above
    ∙ ap (λ more. first ∷ more) (last_tags tags i d sorted.1 (omega (arith, lt)))

pub one_more_tagged : (tags so_far new : List (List ℕ × List (List ℕ))) (i : ℕ) (tagged : List ℕ × List (List ℕ)) (copied : List (List ℕ)) → IsSorted (keys_of tags) → i < length tags → so_far ≡ take i tags → tagged ≡ slice_index_or tags i tagged
    → copied ≡ tagged.1 → new ≡ insert_entry (slice_cmp nat_cmp) so_far tagged.0 copied → new ≡ take (i + 1) tags
one_more_tagged tags so_far new i tagged copied sorted lt is item copy more =
    more ∙ (λ j. insert_entry (slice_cmp nat_cmp) (is j) (item j).0 ((copy ∙ ap (λ t. t.1) item) j)) ∙ last_tags tags i tagged sorted lt ∙ sym (take_more tags i tagged lt)

-- ---- the whole index

pub entries_fit : (index : Base) (rows : List LinkRow) → IsValid index → index.next ≤ 2 ^ 63 → rows ≡ map (λ file. row_of file.1) index.files ++ index.kept → AreEntriesOf rows index.entries index.next
entries_fit index rows valid most is =
    subst (λ all. AreEntriesOf all index.entries index.next) (sym is) (record {
      ids = valid.ids;
      rising = valid.rising;
      numbers = valid.numbers;
      known = valid.numbered;
      bounds = (valid.next, most);
    })

pub opened : (index : Base) (parts : Parts) (rows : List LinkRow) → IsValid index → rows ≡ map (λ file. row_of file.1) index.files ++ index.kept → parts.revision ≡ index.revision → AreFiled parts.file_table → files_in parts.file_table ≡ index.files → AreKept parts.kept
    → values_of parts.kept ≡ index.kept → entries_of parts.labels.labels ≡ index.entries → parts.labels.next ≡ index.next → AreLabelsOf rows parts.labels.labels → parts.tags ≡ index.tags → AreParts parts × (base_of parts ≡ index)
opened index parts rows valid rows_are revision filed files kept kept_are entries next labels tags =
    let base : base_of parts ≡ index = (λ i. record {
      revision = revision i;
      next = next i;
      files = files i;
      kept = kept_are i;
      entries = entries i;
      tags = tags i;
    }) in
    let held : AreHeld index = record {
      rows = λ row among. all_at (λ (r : LinkRow). IsTrue (is_held index r.id)) index.kept valid.kept row among;
      entries = λ entry among. all_at (λ id. IsTrue (is_held index id)) (map (λ e. e.0) index.entries) valid.held entry.0 (Contains_map (λ (e : List ℕ × ℕ). e.0) index.entries entry among);
    } in
    let tagged : AreTagged (files_in parts.file_table) parts.tags =
    subst (λ all. AreTagged (files_in parts.file_table) all) (sym tags) (subst (λ fs. AreTagged fs index.tags) (sym files) (opened_tagged index.files index.tags valid.live valid.sets)) in
    (record { filed = filed; kept = kept; labels = subst (λ all. AreLabelsOf all parts.labels.labels) (rows_are ∙ ap rows_of (sym base)) labels; held = subst AreHeld (sym base) held; tagged = tagged }, base)
