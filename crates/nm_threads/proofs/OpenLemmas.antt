-- Labels made anew: each id with its number, then the rows. For the proofs of `Labels::of` and `give_numbers`.
use Rattle.std.proofs.Common.{◌≡◌, refl, sym, ap, subst, ◌∙◌, ℕ, ◌+◌, ◌<◌, ◌≤◌, Bool, true, false, ◌||◌, cond, List, [], ◌∷◌, ◌++◌, map, take, drop, length, get_or, arith, inl, inr, true≢false}
use Rattle.std.specs.Prelude.{Contains, IsTrue}
use Rattle.std.specs.declared.cmp.Ordering.TheVariants.{Less}
use Rattle.std.specs.List.{AllByRecursion, IsDistinct, flat_map}
use Rattle.std.specs.List.Sorted.{IsStrictlySortedBy}
use Rattle.std.specs.Ordering.{nat_cmp}
use Rattle.std.proofs.lemmas.Bool.{cases_order, or_from}
use Rattle.std.proofs.lemmas.List.{map_push, drop_more, take_more}
use Rattle.std.proofs.lemmas.List.Folds.{list_any-append}
use Rattle.nm_base.specs.Order.{same_text}
use Rattle.nm_base.specs.declared.facts.LinkRow.{LinkRow}
use Rattle.nm_threads.specs.Entries.{AreEntriesOf}
use Rattle.nm_threads.specs.Fits.{Fits}
use Rattle.nm_threads.specs.Labels.{Label, entries_of, has_entry, numbered}
use Rattle.nm_threads.specs.Maps.{labelling_of, AreMaps}
use Rattle.nm_threads.specs.Same.{ids_of}
use Rattle.nm_threads.specs.declared.maps.Maps.{Maps}
use Rattle.nm_threads.proofs.LabelLemmas.{fits_new, has_of}
use Rattle.nm_base.specs.KeyLaws.{same_text_from, same_text_of, Contains_none, greater_is, equal_is}
use Rattle.nm_threads.proofs.NumberLemmas.{label_from}
use Rattle.nm_threads.proofs.RowLemmas.{Entries}

less_from : (a b : ℕ) → nat_cmp a b ≡ Less → a < b
less_from a b is = elim (cases_order a b) [ inl same ↦ absurd (cc (equal_is a b same, is)) | inr (inl lt) ↦ lt | inr (inr gt) ↦ absurd (cc (greater_is a b gt, is)) ]

-- what is to come, where the labels have these entries so far, and this next number
pub record ToCome (before : Entries) (number next : ℕ) (entries : Entries) : Type 0 where
  pub ids : IsDistinct same_text (map (λ entry. entry.0) entries)
  pub absent : AllByRecursion (λ entry. has_entry before entry.0 ≡ false) entries
  pub rising : IsStrictlySortedBy nat_cmp (map (λ entry. entry.1) entries)
  pub above : AllByRecursion (λ entry. (number ≤ entry.1) × (entry.1 < next)) entries
  pub upto : number ≤ next

all_above : (number next : ℕ) (entries : Entries) → AllByRecursion (λ n. nat_cmp number n ≡ Less) (map (λ entry. entry.1) entries) → AllByRecursion (λ entry. (0 ≤ entry.1) × (entry.1 < next)) entries → AllByRecursion (λ entry. (number + 1 ≤ entry.1) × (entry.1 < next)) entries
all_above number next [] rising bounds = tt
all_above number next (entry ∷ entries) rising bounds = ((omega (arith, less_from number entry.1 rising.0), bounds.0.1), all_above number next entries rising.1 bounds.1)

weaker : (number next : ℕ) (entries : Entries) → AllByRecursion (λ entry. (number ≤ entry.1) × (entry.1 < next)) entries → AllByRecursion (λ entry. (0 ≤ entry.1) × (entry.1 < next)) entries
weaker number next [] bounds = tt
weaker number next (entry ∷ entries) bounds = ((omega arith, bounds.0.1), weaker number next entries bounds.1)

none_yet : (before : Entries) (id : List ℕ) (number : ℕ) (other : List ℕ) → has_entry before other ≡ false → same_text id other ≡ false → (test : Bool) → same_text other id ≡ test → has_entry (before ++ (id, number) ∷ []) other ≡ false
none_yet before id number other before_not not true is = absurd (true≢false (sym (ap (λ x. same_text x other) (sym (same_text_from other id is)) ∙ same_text_of other) ∙ not))
none_yet before id number other before_not not false is =
    list_any-append (λ entry. same_text other entry.0) before ((id, number) ∷ []) ∙ or_from (has_entry before other) (same_text other id || false) before_not (or_from (same_text other id) false is refl)

still_absent : (before : Entries) (id : List ℕ) (number : ℕ) (entries : Entries) → AllByRecursion (λ entry. has_entry before entry.0 ≡ false) entries → AllByRecursion (λ other. same_text id other ≡ false) (map (λ entry. entry.0) entries)
    → AllByRecursion (λ entry. has_entry (before ++ (id, number) ∷ []) entry.0 ≡ false) entries
still_absent before id number [] absent apart = tt
still_absent before id number (entry ∷ entries) absent apart = (none_yet before id number entry.0 absent.0 apart.0 (same_text entry.0 id) refl, still_absent before id number entries absent.1 apart.1)

pub come : (before : Entries) (number next : ℕ) (entry : List ℕ × ℕ) (entries : Entries) → ToCome before number next (entry ∷ entries) → ToCome (before ++ entry ∷ []) (entry.1 + 1) next entries
unfolding IsDistinct IsStrictlySortedBy
come before number next entry entries is = record {
  ids = is.ids.1;
  absent = still_absent before entry.0 entry.1 entries is.absent.1 is.ids.0;
  rising = is.rising.1;
  above = all_above entry.1 next entries is.rising.0 (weaker number next entries is.above.1);
  upto = omega (arith, is.above.0.1);
}

none_before : (entries : Entries) → AllByRecursion (λ entry. has_entry [] entry.0 ≡ false) entries
none_before [] = tt
none_before (entry ∷ entries) = (refl, none_before entries)

bounds_of : (next : ℕ) (entries : Entries) → AllByRecursion (λ n. (1 ≤ n) × (n < next)) (map (λ entry. entry.1) entries) → AllByRecursion (λ entry. (1 ≤ entry.1) × (entry.1 < next)) entries
bounds_of next [] bounds = tt
bounds_of next (entry ∷ entries) bounds = (bounds.0, bounds_of next entries bounds.1)

pub to_come : (rows : List LinkRow) (entries : Entries) (next : ℕ) → AreEntriesOf rows entries next → ToCome [] 1 next entries
to_come rows entries next are = record { ids = are.ids; absent = none_before entries; rising = are.rising; above = bounds_of next entries are.numbers; upto = are.bounds.0 }

-- ---- labels without rows

pub fits_none : (labels : List Label) → labels ≡ [] → Fits [] labels
fits_none labels is = subst (Fits []) (sym is) (record {
  known = λ id is. absurd (true≢false (sym is));
  alike = λ a b first second. absurd (Contains_none a first);
  low = λ a first. absurd (Contains_none a first);
  owner = λ a first. absurd (Contains_none a first);
})

pub fits_this : (labels : List Label) (id : List ℕ) (number : ℕ) → Fits [] labels → ((a : Label) → Contains labels a → a.number < number) → has_entry (entries_of labels) id ≡ false → Fits [] (labels ++ (record { id = id; number = number; name = number }) ∷ [])
fits_this labels id number fits below absent = fits_new [] labels fits id number below (λ a among is. true≢false (sym (has_of labels id a among is) ∙ absent))

pub entries_push : (labels : List Label) (id : List ℕ) (number : ℕ) → entries_of (labels ++ (record { id = id; number = number; name = number }) ∷ []) ≡ entries_of labels ++ (id, number) ∷ []
entries_push labels id number = map_push (λ (label : Label). (label.id, label.number)) labels (record { id = id; number = number; name = number })

-- ---- rows whose ids all have numbers

all_known : (entries : Entries) (next : ℕ) (ids : List (List ℕ)) → AllByRecursion (λ id. IsTrue (has_entry entries id)) ids → numbered entries next ids ≡ (entries, next)
all_known entries next [] known = refl
all_known entries next (id ∷ more) known = ap (λ test. cond test (numbered entries next more) (numbered (entries ++ (id, next) ∷ []) (next + 1) more)) known.0 ∙ all_known entries next more known.1

all_both : (P : List ℕ → Type 0) (xs ys : List (List ℕ)) → AllByRecursion P xs → AllByRecursion P ys → AllByRecursion P (xs ++ ys)
all_both P [] ys p q = q
all_both P (x ∷ xs) ys p q = (p.0, all_both P xs ys p.1 q)

all_ids : (entries : Entries) (rows : List LinkRow) → AllByRecursion (λ row. AllByRecursion (λ id. IsTrue (has_entry entries id)) (ids_of row)) rows → AllByRecursion (λ id. IsTrue (has_entry entries id)) (flat_map ids_of rows)
all_ids entries [] known = tt
all_ids entries (row ∷ rows) known = all_both (λ id. IsTrue (has_entry entries id)) (ids_of row) (flat_map ids_of rows) known.0 (all_ids entries rows known.1)

pub rows_known : (rows : List LinkRow) (entries : Entries) (next : ℕ) → AreEntriesOf rows entries next → numbered entries next (flat_map ids_of rows) ≡ (entries, next)
rows_known rows entries next are = all_known entries next (flat_map ids_of rows) (all_ids entries rows are.known)

-- ---- the loop over entries

pub begins : (m : Maps) (entries : Entries) (next : ℕ) → (labelling_of m).labels ≡ [] → m.next ≡ 1 → AreEntriesOf [] entries next → ToCome (entries_of (labelling_of m).labels) m.next next entries
begins m entries next none first are = subst (λ labels. ToCome (entries_of labels) m.next next entries) (sym none) (subst (λ n. ToCome [] n next entries) (sym first) (to_come [] entries next are))

module _ (now new : Maps) (are : AreMaps now) (entries : Entries) (next i : ℕ) (lt : i < length entries) (item : List ℕ × ℕ) (item_is : get_or entries i item ≡ item) (so_far : entries_of (labelling_of now).labels ≡ take i entries)
    (rest : ToCome (entries_of (labelling_of now).labels) now.next next (drop i entries)) (fits : Fits [] (labelling_of now).labels) (next_is : new.next ≡ item.1 + 1)
    (labels_are : (labelling_of new).labels ≡ (labelling_of now).labels ++ (record { id = item.0; number = item.1; name = item.1 }) ∷ []) where
  rest_here : ToCome (entries_of (labelling_of now).labels) now.next next (item ∷ drop (i + 1) entries)
  rest_here = subst (ToCome (entries_of (labelling_of now).labels) now.next next) (drop_more entries i item lt ∙ ap (λ x. x ∷ drop (i + 1) entries) item_is) rest

  grown : entries_of (labelling_of new).labels ≡ entries_of (labelling_of now).labels ++ item ∷ []
  grown = ap entries_of labels_are ∙ entries_push (labelling_of now).labels item.0 item.1

  pub entries_more : entries_of (labelling_of new).labels ≡ take (i + 1) entries
  entries_more = grown ∙ ap (λ front. front ++ item ∷ []) so_far ∙ ap (λ x. take i entries ++ x ∷ []) (sym item_is) ∙ sym (take_more entries i item lt)

  pub rest_more : ToCome (entries_of (labelling_of new).labels) new.next next (drop (i + 1) entries)
  rest_more =
      subst (λ before. ToCome before new.next next (drop (i + 1) entries)) (sym grown)
      (subst (λ n. ToCome (entries_of (labelling_of now).labels ++ item ∷ []) n next (drop (i + 1) entries)) (sym next_is) (come (entries_of (labelling_of now).labels) now.next next item (drop (i + 1) entries) rest_here))

  below_item : (a : Label) → Contains (labelling_of now).labels a → a.number < item.1
  below_item a among = let b = are.below a.number a.id (label_from now a among).0 in omega (arith, b.1, rest_here.above.0.0)

  pub fits_more : Fits [] (labelling_of new).labels
  fits_more = subst (Fits []) (sym labels_are) (fits_this (labelling_of now).labels item.0 item.1 fits below_item rest_here.absent.0)

-- what the rows number, which is nothing
pub opened : (m : Maps) (rows slice : List LinkRow) (entries items : Entries) (next : ℕ) → slice ≡ rows → items ≡ entries → entries_of (labelling_of m).labels ≡ items → m.next ≡ next → AreEntriesOf rows entries next
    → numbered (entries_of (labelling_of m).labels) m.next (flat_map ids_of slice) ≡ (entries, next)
opened m rows slice entries items next rows_are items_are entries_are next_is are =
    ap (λ e. numbered e m.next (flat_map ids_of slice)) (entries_are ∙ items_are) ∙ ap (λ n. numbered entries n (flat_map ids_of slice)) next_is ∙ ap (λ all. numbered entries next (flat_map ids_of all)) rows_are ∙ rows_known rows entries next are
