-- Indices that differ in their numbers alone, and that changes keep them so.
-- For the proofs of `counted`, `renumbered` and `counts_anew`.
use Rattle.std.proofs.Common.{◌≡◌, refl, sym, ap, subst, ◌∙◌, ℕ, suc, zero, ◌+◌, ◌-◌, ◌<◌, ◌≤◌, Bool, true, false, ◌||◌, cond, List, [], ◌∷◌, ◌++◌, length, map, min, take, arith, true≢false}
use Rattle.std.specs.Prelude.{IsTrue, fold, slice_index_or}
use Rattle.std.specs.BTreeMap.{insert_entry}
use Rattle.std.specs.BTreeSet.{insert_key}
use Rattle.std.specs.Cmp.Lexicographic.{slice_cmp}
use Rattle.std.specs.List.{AllByRecursion, IsDistinct, filter, list_any, sum_by}
use Rattle.std.specs.List.Sorted.{IsStrictlySortedBy}
use Rattle.std.specs.Ordering.{nat_cmp}
use Rattle.std.specs.declared.cmp.Ordering.TheVariants.{Less}
use Rattle.std.proofs.lemmas.List.{take_more, map_push}
use Rattle.nm_base.specs.Limits.{max_count}
use Rattle.nm_base.specs.Order.{has_text, same_text}
use Rattle.nm_base.specs.declared.facts.Facts.{Facts}
use Rattle.nm_commit.specs.Files.{has_id, with_moved, without_path}
use Rattle.nm_commit.specs.declared.change.Change.{Change}
use Rattle.nm_commit.specs.declared.change.Change.TheVariants.{Add, Drop, Move, SetTags}
use Rattle.nm_model_index.specs.Index.{applied, files_at, first_tags, is_held, pruned, row_bytes, row_cmp, row_of, rows_of, with_mail, with_revision, without_first, without_mail}
use Rattle.nm_model_index.specs.Valid.{IsValid}
use Rattle.nm_model_index.specs.declared.base.Base.{Base}
use Rattle.nm_record.specs.BaseBytes.{base_len, entry_bytes}
use Rattle.nm_record.specs.Commits.{arrival_grammar, tagging_grammar}
use Rattle.nm_threads.specs.Labels.{has_entry, numbered}
use Rattle.nm_threads.specs.Same.{ids_of, is_same}
use Rattle.nm_state.specs.Counts.{AreCounts}
use Rattle.nm_tables.specs.Measures.{entries_len, ids_len}
use Rattle.nm_parts.specs.Parts.{tags_after, without_file}
use Rattle.nm_state.specs.Renumbered.{counted, renumbered}
use Rattle.nm_state.specs.declared.room.Counts.{Counts}
use Rattle.nm_parts.specs.MailLaws.{mailed, mailed_is}
use Rattle.nm_base.specs.KeyLaws.{less_is}
use Rattle.nm_tables.specs.MeasureLaws.{entries_ids}
use Rattle.nm_parts.specs.MailLaws.{dropped_is}

abbrev Entries : Type 0
Entries = List (List ℕ × ℕ)

abbrev ids : Entries → List (List ℕ)
ids entries = map (λ entry. entry.0) entries

-- the same but for the numbers, and the next ones as far apart
record AreAlike (a b : Base) (m n : ℕ) : Type 0 where
  files : a.files ≡ b.files
  kept : a.kept ≡ b.kept
  tags : a.tags ≡ b.tags
  named : map (λ entry. entry.0) a.entries ≡ map (λ entry. entry.0) b.entries
  next : a.next + m ≡ b.next + n

-- ---- numbers

has_is : (es : Entries) (id : List ℕ) → has_entry es id ≡ has_text (map (λ entry. entry.0) es) id
has_is [] id = refl
has_is (e ∷ es) id = (λ i. same_text id e.0 || has_is es id i)

abbrev Agree : ℕ → ℕ → Entries × ℕ → Entries × ℕ → Type 0
Agree m n x y = (ids x.0 ≡ ids y.0) × (x.1 + m ≡ y.1 + n)

numbered_alike : (named : List (List ℕ)) (es fs : Entries) (a b m n : ℕ) → ids es ≡ ids fs → a + m ≡ b + n → Agree m n (numbered es a named) (numbered fs b named)
numbered_alike [] es fs a b m n same next = (same, next)
numbered_alike (id ∷ named) es fs a b m n same next =
    by (has_entry es id) (has_entry fs id) (has_is es id ∙ ap (λ all. has_text all id) same ∙ sym (has_is fs id)) (numbered_alike named es fs a b m n same next)
    (numbered_alike named (es ++ (id, a) ∷ []) (fs ++ (id, b) ∷ []) (a + 1) (b + 1) m n
    (map_push (λ (e : List ℕ × ℕ). e.0) es (id, a) ∙ ap (λ all. all ++ id ∷ []) same ∙ sym (map_push (λ (e : List ℕ × ℕ). e.0) fs (id, b))) (omega (arith, next)))
  where
    by : (t u : Bool) → t ≡ u → Agree m n (numbered es a named) (numbered fs b named) → Agree m n (numbered (es ++ (id, a) ∷ []) (a + 1) named) (numbered (fs ++ (id, b) ∷ []) (b + 1) named)
        → Agree m n (cond t (numbered es a named) (numbered (es ++ (id, a) ∷ []) (a + 1) named)) (cond u (numbered fs b named) (numbered (fs ++ (id, b) ∷ []) (b + 1) named))
    by true true is old new = old
    by false false is old new = new
    by true false is old new = absurd (true≢false is)
    by false true is old new = absurd (true≢false (sym is))

-- ---- what is held

held_alike : (a b : Base) → a.files ≡ b.files → a.kept ≡ b.kept → (id : List ℕ) → is_held a id ≡ is_held b id
held_alike a b files kept id = λ i. list_any (λ file. is_same (map (λ f. row_of f.1) (files i) ++ kept i) id file.1.id) (files i)

ids_left : (test : List ℕ → Bool) (es : Entries) → ids (filter (λ entry. test entry.0) es) ≡ filter test (ids es)
ids_left test [] = refl
ids_left test (e ∷ es) = by (test e.0) (ids_left test es)
  where
    by : (t : Bool) → ids (filter (λ entry. test entry.0) es) ≡ filter test (ids es)
        → ids (cond t (e ∷ filter (λ entry. test entry.0) es) (filter (λ entry. test entry.0) es)) ≡ cond t (e.0 ∷ filter test (ids es)) (filter test (ids es))
    by true rest = ap (λ more. e.0 ∷ more) rest
    by false rest = rest

-- ---- changes

module _ (a b : Base) (m n : ℕ) (are : AreAlike a b m n) where
  added_alike : (path : List ℕ) (facts : Facts) → AreAlike (with_mail a path facts) (with_mail b path facts) m n
  added_alike path facts =
      let all = numbered_alike (facts.id ∷ facts.links) a.entries b.entries a.next b.next m n are.named are.next in
      let parts : AreAlike (mailed a path facts) (mailed b path facts) m n = record {
        files = ap (λ files. files ++ (path, facts) ∷ []) are.files;
        kept = are.kept;
        tags = λ i. cond (has_id (are.files i) facts.id) (are.tags i) (insert_entry (slice_cmp nat_cmp) (are.tags i) facts.id (first_tags facts.marks));
        named = all.0;
        next = all.1;
      } in
      subst (λ x. AreAlike x (with_mail b path facts) m n) (sym (mailed_is a path facts)) (subst (λ x. AreAlike (mailed a path facts) x m n) (sym (mailed_is b path facts)) parts)

  pruned_alike : AreAlike (pruned a) (pruned b) m n
  pruned_alike =
      let held = held_alike a b are.files are.kept in
      record {
        files = are.files;
        kept = λ i. filter (λ row. held row.id i) (are.kept i);
        tags = are.tags;
        named = ids_left (is_held a) a.entries ∙ (λ i. filter (λ id. held id i) (are.named i)) ∙ sym (ids_left (is_held b) b.entries);
        next = are.next;
      }

  taken_alike : (path : List ℕ) (facts : Facts) → AreAlike (without_file a path facts) (without_file b path facts) m n
  taken_alike path facts = record {
    files = ap (λ files. without_path files path) are.files;
    kept = ap (λ kept. insert_key row_cmp kept (row_of facts)) are.kept;
    tags = λ i. tags_after (without_path (are.files i) path) (are.tags i) facts.id;
    named = are.named;
    next = are.next;
  }

dropped_alike : (a b : Base) (m n : ℕ) (are : AreAlike a b m n) (path : List ℕ) (there : List (List ℕ × Facts)) → AreAlike (without_first a path there) (without_first b path there) m n
dropped_alike a b m n are path [] = are
dropped_alike a b m n are path (file ∷ more) =
    let parts = pruned_alike (without_file a path file.1) (without_file b path file.1) m n (taken_alike a b m n are path file.1) in
    subst (λ x. AreAlike x (without_mail b path file.1) m n) (dropped_is a path file.1) (subst (λ x. AreAlike (pruned (without_file a path file.1)) x m n) (dropped_is b path file.1) parts)

alike_after : (a b : Base) (m n : ℕ) → AreAlike a b m n → (change : Change) → AreAlike (applied a change) (applied b change) m n
alike_after a b m n are (Add path facts) = added_alike a b m n are path facts
alike_after a b m n are (Drop path) =
    subst (λ there. AreAlike (without_first a path (files_at a path)) (without_first b path there) m n) (ap (λ (files : List (List ℕ × Facts)). filter (λ file. same_text path file.0) files) are.files)
    (dropped_alike a b m n are path (files_at a path))
alike_after a b m n are (Move from to) = record { files = ap (λ files. with_moved files from to) are.files; kept = are.kept; tags = are.tags; named = are.named; next = are.next }
alike_after a b m n are (SetTags id tags) = record { files = are.files; kept = are.kept; tags = ap (λ all. insert_entry (slice_cmp nat_cmp) all id tags) are.tags; named = are.named; next = are.next }

all_alike : (changes : List Change) (a b : Base) (m n : ℕ) → AreAlike a b m n → AreAlike (fold applied a changes) (fold applied b changes) m n
all_alike [] a b m n are = are
all_alike (change ∷ changes) a b m n are = all_alike changes (applied a change) (applied b change) m n (alike_after a b m n are change)

-- ---- numbers from 1 on

counted_ids : (number : ℕ) (es : Entries) → ids (counted number es) ≡ ids es
counted_ids number [] = refl
counted_ids number (e ∷ es) = ap (λ more. e.0 ∷ more) (counted_ids (number + 1) es)

pub counted_len : (number : ℕ) (es : Entries) → length (counted number es) ≡ length es
counted_len number [] = refl
counted_len number (e ∷ es) = omega (arith, counted_len (number + 1) es)

counted_push : (number : ℕ) (es : Entries) (e : List ℕ × ℕ) → counted number (es ++ e ∷ []) ≡ counted number es ++ (e.0, number + length es) ∷ []
counted_push number [] e = ap (λ n. (e.0, n) ∷ []) (omega arith)
counted_push number (x ∷ es) e = ap (λ more. (x.0, number) ∷ more) (counted_push (number + 1) es e ∙ ap (λ n. counted (number + 1) es ++ (e.0, n) ∷ []) (omega arith))

taken_len : (es : Entries) (i : ℕ) → i < length es → length (take i es) ≡ i
taken_len [] i lt = absurd (omega (arith, lt))
taken_len (e ∷ es) zero lt = refl
taken_len (e ∷ es) (suc i) lt = omega (arith, taken_len es i (omega (arith, lt)))

-- one more has its number
pub one_more_counted : (es so_far new : Entries) (i : ℕ) (e : List ℕ × ℕ) (id : List ℕ) (number : ℕ) → i < length es → so_far ≡ counted 1 (take i es) → number ≡ 1 + i → e ≡ slice_index_or es i e → id ≡ e.0 → new ≡ so_far ++ (id, number) ∷ []
    → new ≡ counted 1 (take (i + 1) es)
one_more_counted es so_far new i e id number lt is number_is item id_is more =
    let place : number ≡ 1 + length (take i es) = omega (arith, number_is, taken_len es i lt) in
    let all : take (i + 1) es ≡ take i es ++ e ∷ [] = take_more es i e lt ∙ ap (λ x. take i es ++ x ∷ []) (sym item) in
    more ∙ (λ j. is j ++ (id_is j, place j) ∷ []) ∙ sym (counted_push 1 (take i es) e) ∙ ap (counted 1) (sym all)

above : (k number : ℕ) (es : Entries) → k < number → AllByRecursion (λ m. nat_cmp k m ≡ Less) (map (λ entry. entry.1) (counted number es))
above k number [] lt = tt
above k number (e ∷ es) lt = (less_is k number lt, above k (number + 1) es (omega (arith, lt)))

rising : (number : ℕ) (es : Entries) → IsStrictlySortedBy nat_cmp (map (λ entry. entry.1) (counted number es))
unfolding IsStrictlySortedBy
rising number [] = tt
rising number (e ∷ es) = (above number (number + 1) es (omega arith), rising (number + 1) es)

between : (number next : ℕ) (es : Entries) → 1 ≤ number → number + length es ≤ next → AllByRecursion (λ n. (1 ≤ n) × (n < next)) (map (λ entry. entry.1) (counted number es))
between number next [] low high = tt
between number next (e ∷ es) low high = ((low, (omega (arith, high))), between (number + 1) next es (omega (arith, low)) (omega (arith, high)))

pub renumbered_is : (index : Base) (entries : Entries) (count : ℕ) → entries ≡ counted 1 index.entries → count ≡ length entries → record index { entries = entries; next = 1 + count } ≡ renumbered index
renumbered_is index entries count is count_is =
    let all : count ≡ length index.entries = count_is ∙ ap (λ (es : Entries). length es) is ∙ counted_len 1 index.entries in (λ i. record index { entries = is i; next = 1 + all i })

pub renumbered_valid : (index : Base) → IsValid index → IsValid (renumbered index)
renumbered_valid index valid =
    let same : (id : List ℕ) → has_entry index.entries id ≡ has_entry (counted 1 index.entries) id =
    λ id. has_is index.entries id ∙ ap (λ all. has_text all id) (sym (counted_ids 1 index.entries)) ∙ sym (has_is (counted 1 index.entries) id) in
    record {
      paths = valid.paths;
      dates = valid.dates;
      rows = valid.rows;
      ids = subst (IsDistinct same_text) (sym (counted_ids 1 index.entries)) valid.ids;
      rising = rising 1 index.entries;
      numbers = between 1 (1 + length index.entries) index.entries (omega arith) (omega arith);
      next = omega arith;
      numbered = subst (λ (has : List ℕ → Bool). AllByRecursion (λ row. AllByRecursion (λ id. IsTrue (has id)) (ids_of row)) (rows_of index)) (λ i id. same id i) valid.numbered;
      kept = valid.kept;
      held = subst (AllByRecursion (λ id. IsTrue (is_held index id))) (sym (counted_ids 1 index.entries)) valid.held;
      live = valid.live;
      in_order = valid.in_order;
      sets = valid.sets;
    }

-- ---- what an index comes to

abbrev BaseLens : Type 0
BaseLens =
    (index : Base) → base_len index ≡ 32 + sum_by (λ file. length (arrival_grammar.bytes file)) index.files + sum_by (λ row. length (row_bytes row)) index.kept + sum_by (λ entry. length (entry_bytes entry)) index.entries + sum_by (λ tagged. length (tagging_grammar.bytes tagged)) index.tags

len_alike : BaseLens → (a b : Base) (m n : ℕ) → AreAlike a b m n → base_len a ≡ base_len b
len_alike law a b m n are =
    let files = ap (sum_by (λ (file : List ℕ × Facts). length (arrival_grammar.bytes file))) are.files in
    let kept = ap (sum_by (λ row. length (row_bytes row))) are.kept in
    let entries : entries_len a.entries ≡ entries_len b.entries = sym (entries_ids a.entries) ∙ ap ids_len are.named ∙ entries_ids b.entries in
    let tags = ap (sum_by (λ (tagged : List ℕ × List (List ℕ)). length (tagging_grammar.bytes tagged))) are.tags in
    omega (arith, law a, law b, files, kept, entries, tags)

-- what a commit makes of the index comes to as much, but for the number that is next
pub counts_alike : BaseLens → (index : Base) (changes : List Change) (revision : ℕ) (anew found : Counts) → AreCounts (with_revision revision (fold applied (renumbered index) changes)) anew
    → (fold applied (renumbered index) changes).next ≤ max_count → (renumbered index).next ≤ (fold applied (renumbered index) changes).next
    → found.files ≡ anew.files → found.bytes ≡ anew.bytes → found.next ≡ min (index.next + (anew.next - (renumbered index).next)) max_count
    → (other : ℕ) → AreCounts (with_revision other (fold applied index changes)) found
counts_alike law index changes revision anew found are most least files bytes next other =
    let first : AreAlike index (renumbered index) (renumbered index).next index.next = record { files = refl; kept = refl; tags = refl; named = sym (counted_ids 1 index.entries); next = omega arith } in
    let after = all_alike changes index (renumbered index) (renumbered index).next index.next first in
    record {
      files = files ∙ are.files ∙ ap (λ (all : List (List ℕ × Facts)). length all) (sym after.files);
      bytes = bytes ∙ are.bytes ∙ ap (λ all. min all max_count) (sym (len_alike law (fold applied index changes) (fold applied (renumbered index) changes) (renumbered index).next index.next after));
      next = omega (arith, next, are.next, most, least, after.next);
    }
