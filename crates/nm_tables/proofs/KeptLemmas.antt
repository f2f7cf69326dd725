-- Rows at their bytes: an insertion among them, and a row that is there already.
-- For the proofs of `keep_row`.
use Rattle.std.proofs.Common.{◌≡◌, refl, sym, ap, subst, ◌∙◌, ℕ, Bool, true, false, ◌&&◌, not, cond, List, [], ◌∷◌, inl, inr, ◌⊎◌, true≢false}
use Rattle.std.specs.Prelude.{Contains, Option, Some, None}
use Rattle.std.specs.BTreeMap.{insert_entry, is_at}
use Rattle.std.specs.BTreeSet.{insert_key}
use Rattle.std.specs.Cmp.Lexicographic.{pointwise, slice_cmp}
use Rattle.std.specs.List.{AllByRecursion, filter}
use Rattle.std.specs.List.Sorted.{IsStrictlySortedBy}
use Rattle.std.specs.Map.{keys_of, lookup, values_of}
use Rattle.std.specs.Ordering.{is_eq, match_ordering, nat_cmp}
use Rattle.std.specs.declared.cmp.Ordering.{Ordering}
use Rattle.std.specs.declared.cmp.Ordering.TheVariants.{Less, Equal, Greater}
use Rattle.std.proofs.lemmas.Bool.{and_parts}
use Rattle.std.proofs.lemmas.Cmp.{nat_list_cmp_total}
use Rattle.std.proofs.lemmas.Option.{none-some, same_Some}
use Rattle.nm_base.specs.Order.{same_text}
use Rattle.nm_base.specs.declared.facts.LinkRow.{LinkRow}
use Rattle.nm_model_index.specs.Index.{row_bytes, row_cmp}
use Rattle.nm_tables.specs.Kept.{AreKept}
use Rattle.nm_base.specs.KeyLaws.{Contains_there, Contains_first, Contains_cases, same_text_from}
use Rattle.nm_tables.proofs.OrderLemmas.{above_all, sorted_insert}

none_first : {V : Type 0} (test : Bool) (x : V) (rest : Option V) → cond test (Some x) rest ≡ None → (test ≡ false) × (rest ≡ None)
none_first true x rest is = absurd (none-some x (sym is))
none_first false x rest is = (refl, is)

abbrev Rows : Type 0
Rows = List (List ℕ × LinkRow)

module _ (row : LinkRow) where
  inserted_by : (e : List ℕ × LinkRow) (es : Rows) (answer : Ordering) → is_eq answer ≡ false → values_of (insert_entry (slice_cmp nat_cmp) es (row_bytes row) row) ≡ insert_key row_cmp (values_of es) row
      → values_of (match_ordering answer ((row_bytes row, row) ∷ e ∷ es) ((e.0, row) ∷ es) (e ∷ insert_entry (slice_cmp nat_cmp) es (row_bytes row) row))
      ≡ match_ordering answer (row ∷ e.1 ∷ values_of es) (e.1 ∷ values_of es) (e.1 ∷ insert_key row_cmp (values_of es) row)
  inserted_by e es Less not more = refl
  inserted_by e es Equal not more = absurd (true≢false not)
  inserted_by e es Greater not more = ap (λ rest. e.1 ∷ rest) more

  -- a new row goes to its place
  pub inserted : (es : Rows) → ((e : List ℕ × LinkRow) → Contains es e → e.0 ≡ row_bytes e.1) → lookup (is_at (slice_cmp nat_cmp (row_bytes row))) es ≡ None
      → values_of (insert_entry (slice_cmp nat_cmp) es (row_bytes row) row) ≡ insert_key row_cmp (values_of es) row
  inserted [] keyed none = refl
  inserted (e ∷ es) keyed none =
      let parts = none_first (is_eq (slice_cmp nat_cmp (row_bytes row) e.0)) e.1 (lookup (is_at (slice_cmp nat_cmp (row_bytes row))) es) none in
      inserted_by e es (slice_cmp nat_cmp (row_bytes row) e.0) parts.0 (inserted es (λ x among. keyed x (Contains_there e es x among)) parts.1)
      ∙ ap (λ key. match_ordering (slice_cmp nat_cmp (row_bytes row) key) (row ∷ e.1 ∷ values_of es) (e.1 ∷ values_of es) (e.1 ∷ insert_key row_cmp (values_of es) row)) (keyed e (Contains_first e es))

  none_above : (es : Rows) → AllByRecursion (λ key. slice_cmp nat_cmp (row_bytes row) key ≡ Less) (keys_of es) → lookup (is_at (slice_cmp nat_cmp (row_bytes row))) es ≡ None
  none_above [] all = refl
  none_above (e ∷ es) all = rw all.0 (none_above es all.1)

  none_below : (e : List ℕ × LinkRow) (es : Rows) → IsStrictlySortedBy (slice_cmp nat_cmp) (keys_of (e ∷ es)) → slice_cmp nat_cmp (row_bytes row) e.0 ≡ Less → lookup (is_at (slice_cmp nat_cmp (row_bytes row))) es ≡ None
  unfolding IsStrictlySortedBy
  none_below e es sorted less = none_above es (above_all nat_list_cmp_total (row_bytes row) e.0 es sorted.0 less)

  sorted_rest : (e : List ℕ × LinkRow) (es : Rows) → IsStrictlySortedBy (slice_cmp nat_cmp) (keys_of (e ∷ es)) → IsStrictlySortedBy (slice_cmp nat_cmp) (keys_of es)
  unfolding IsStrictlySortedBy
  sorted_rest e es sorted = sorted.1

  there_by : (e : List ℕ × LinkRow) (es : Rows) (answer : Ordering) → slice_cmp nat_cmp (row_bytes row) e.0 ≡ answer → IsStrictlySortedBy (slice_cmp nat_cmp) (keys_of (e ∷ es)) → (found : LinkRow)
      → lookup (is_at (slice_cmp nat_cmp (row_bytes row))) (e ∷ es) ≡ Some found → (lookup (is_at (slice_cmp nat_cmp (row_bytes row))) es ≡ Some found → insert_key row_cmp (values_of es) row ≡ values_of es)
      → match_ordering answer (row ∷ e.1 ∷ values_of es) (e.1 ∷ values_of es) (e.1 ∷ insert_key row_cmp (values_of es) row) ≡ e.1 ∷ values_of es
  there_by e es Less is sorted found at more = absurd (none-some found (sym (none_below e es sorted is) ∙ sym (ap (λ o. cond (is_eq o) (Some e.1) (lookup (is_at (slice_cmp nat_cmp (row_bytes row))) es)) is) ∙ at))
  there_by e es Equal is sorted found at more = refl
  there_by e es Greater is sorted found at more =
      ap (λ rest. e.1 ∷ rest) (more (sym (ap (λ o. cond (is_eq o) (Some e.1) (lookup (is_at (slice_cmp nat_cmp (row_bytes row))) es)) is) ∙ at))

  -- a row whose bytes are there leaves all as it is
  pub there : (es : Rows) → IsStrictlySortedBy (slice_cmp nat_cmp) (keys_of es) → ((e : List ℕ × LinkRow) → Contains es e → e.0 ≡ row_bytes e.1) → (found : LinkRow)
      → lookup (is_at (slice_cmp nat_cmp (row_bytes row))) es ≡ Some found → insert_key row_cmp (values_of es) row ≡ values_of es
  there [] sorted keyed found at = absurd (none-some found at)
  there (e ∷ es) sorted keyed found at =
      sym (ap (λ key. match_ordering (slice_cmp nat_cmp (row_bytes row) key) (row ∷ e.1 ∷ values_of es) (e.1 ∷ values_of es) (e.1 ∷ insert_key row_cmp (values_of es) row)) (keyed e (Contains_first e es)))
      ∙ there_by e es (slice_cmp nat_cmp (row_bytes row) e.0) refl sorted found at (there es (sorted_rest e es sorted) (λ x among. keyed x (Contains_there e es x among)) found)

module _ {K V : Type 0} (test : K → Bool) where
  found_by : (e : K × V) (es : List (K × V)) (v : V) (answer : Bool) → (lookup test es ≡ Some v → Contains (values_of es) v) → cond answer (Some e.1) (lookup test es) ≡ Some v → Contains (e.1 ∷ values_of es) v
  found_by e es v true more is = subst (λ x. Contains (e.1 ∷ values_of es) x) (same_Some e.1 v is) (Contains_first e.1 (values_of es))
  found_by e es v false more is = Contains_there e.1 (values_of es) v (more is)

  -- what is found is one of the values
  pub found_among : (es : List (K × V)) (v : V) → lookup test es ≡ Some v → Contains (values_of es) v
  found_among [] v is = absurd (none-some v is)
  found_among (e ∷ es) v is = found_by e es v (test e.0) (found_among es v) is

-- an entry of an insertion is the new one or an old one
inserted_entry_by : (key : List ℕ) (value : LinkRow) (e : List ℕ × LinkRow) (es : Rows) (answer : Ordering) → is_eq answer ≡ false → (x : List ℕ × LinkRow)
    → (Contains (insert_entry (slice_cmp nat_cmp) es key value) x → ((key, value) ≡ x) ⊎ Contains es x)
    → Contains (match_ordering answer ((key, value) ∷ e ∷ es) ((e.0, value) ∷ es) (e ∷ insert_entry (slice_cmp nat_cmp) es key value)) x → ((key, value) ≡ x) ⊎ Contains (e ∷ es) x
inserted_entry_by key value e es Less not x more among = Contains_cases (key, value) (e ∷ es) x among
inserted_entry_by key value e es Equal not x more among = absurd (true≢false not)
inserted_entry_by key value e es Greater not x more among = elim (Contains_cases e (insert_entry (slice_cmp nat_cmp) es key value) x among) [
  | inl here ↦ inr (subst (λ y. Contains (e ∷ es) y) here (Contains_first e es))
  | inr there ↦ elim (more there) [ inl new ↦ inl new | inr old ↦ inr (Contains_there e es x old) ]
]

inserted_entry : (key : List ℕ) (value : LinkRow) (es : Rows) → lookup (is_at (slice_cmp nat_cmp key)) es ≡ None → (x : List ℕ × LinkRow) → Contains (insert_entry (slice_cmp nat_cmp) es key value) x → ((key, value) ≡ x) ⊎ Contains es x
inserted_entry key value [] none x among = Contains_cases (key, value) [] x among
inserted_entry key value (e ∷ es) none x among =
    let parts = none_first (is_eq (slice_cmp nat_cmp key e.0)) e.1 (lookup (is_at (slice_cmp nat_cmp key)) es) none in
    inserted_entry_by key value e es (slice_cmp nat_cmp key e.0) parts.0 x (inserted_entry key value es parts.1 x) among

-- a new row in the map
pub kept_more : (old new : Rows) (row value : LinkRow) (key : List ℕ) → AreKept old → key ≡ row_bytes row → value ≡ row → None ≡ lookup (is_at (slice_cmp nat_cmp key)) old → new ≡ insert_entry (slice_cmp nat_cmp) old key value
    → lookup (is_at (slice_cmp nat_cmp key)) new ≡ Some value → AreKept new × (values_of new ≡ insert_key row_cmp (values_of old) row) × Contains (values_of new) row
kept_more old new row value key are key_is value_is none is found =
    let none_row : lookup (is_at (slice_cmp nat_cmp (row_bytes row))) old ≡ None = subst (λ k. lookup (is_at (slice_cmp nat_cmp k)) old ≡ None) key_is (sym none) in
    let is_row : new ≡ insert_entry (slice_cmp nat_cmp) old (row_bytes row) row = is ∙ (λ i. insert_entry (slice_cmp nat_cmp) old (key_is i) (value_is i)) in (
      record {
        sorted = subst (λ es. IsStrictlySortedBy (slice_cmp nat_cmp) (keys_of es)) (sym is) (sorted_insert nat_list_cmp_total old key value are.sorted);
        keyed = λ x among. elim (inserted_entry key value old (sym none) x (subst (λ es. Contains es x) is among)) [
          | inl new_one ↦ sym (ap (λ e. e.0) new_one) ∙ key_is ∙ ap row_bytes (sym value_is ∙ ap (λ e. e.1) new_one)
          | inr old_one ↦ are.keyed x old_one
        ];
      },
      ap values_of is_row ∙ inserted row old are.keyed none_row,
      subst (λ v. Contains (values_of new) v) value_is (found_among (is_at (slice_cmp nat_cmp key)) new value found),
    )

-- the row is there
pub kept_same : (kept : Rows) (row found : LinkRow) (key : List ℕ) → AreKept kept → key ≡ row_bytes row → found ≡ row → Some found ≡ lookup (is_at (slice_cmp nat_cmp key)) kept
    → (values_of kept ≡ insert_key row_cmp (values_of kept) row) × Contains (values_of kept) row
kept_same kept row found key are key_is found_is at = (
  sym (there row kept are.sorted are.keyed found (subst (λ k. lookup (is_at (slice_cmp nat_cmp k)) kept ≡ Some found) key_is (sym at))),
  subst (λ v. Contains (values_of kept) v) found_is (found_among (is_at (slice_cmp nat_cmp key)) kept found (sym at)),
)

-- ---- rows that a test finds the same

pub same_links : (xs ys : List (List ℕ)) → pointwise same_text xs ys ≡ true → xs ≡ ys
same_links [] [] is = refl
same_links [] (y ∷ ys) is = absurd (true≢false (sym is))
same_links (x ∷ xs) [] is = absurd (true≢false (sym is))
same_links (x ∷ xs) (y ∷ ys) is =
    let parts = and_parts (same_text x y) (pointwise same_text xs ys) is in let first : x ≡ y = same_text_from x y parts.0 in let rest : xs ≡ ys = same_links xs ys parts.1 in (λ i. first i ∷ rest i)

pub same_row : (a b : LinkRow) → true ≡ (same_text a.id b.id && pointwise same_text a.links b.links) → a ≡ b
same_row a b is =
    let parts = and_parts (same_text a.id b.id) (pointwise same_text a.links b.links) (sym is) in
    let ids : a.id ≡ b.id = same_text_from a.id b.id parts.0 in
    let links : a.links ≡ b.links = same_links a.links b.links parts.1 in (λ i. record { id = ids i; links = links i })

-- ---- rows that are left

all_filter_by : {K V : Type 0} (P : K → Type 0) (e : K × V) (rest : List (K × V)) (test : Bool) → P e.0 → AllByRecursion P (keys_of rest) → AllByRecursion P (keys_of (cond test (e ∷ rest) rest))
all_filter_by P e rest true first all = (first, all)
all_filter_by P e rest false first all = all

all_filter : {K V : Type 0} (P : K → Type 0) (p : K × V → Bool) (es : List (K × V)) → AllByRecursion P (keys_of es) → AllByRecursion P (keys_of (filter p es))
all_filter P p [] all = tt
all_filter P p (e ∷ es) all = all_filter_by P e (filter p es) (p e) all.0 (all_filter P p es all.1)

sorted_filter_by : (e : List ℕ × LinkRow) (rest : Rows) (test : Bool) → AllByRecursion (λ key. slice_cmp nat_cmp e.0 key ≡ Less) (keys_of rest) → IsStrictlySortedBy (slice_cmp nat_cmp) (keys_of rest)
    → IsStrictlySortedBy (slice_cmp nat_cmp) (keys_of (cond test (e ∷ rest) rest))
unfolding IsStrictlySortedBy
sorted_filter_by e rest true all sorted = (all, sorted)
sorted_filter_by e rest false all sorted = sorted

pub sorted_filter : (p : List ℕ × LinkRow → Bool) (es : Rows) → IsStrictlySortedBy (slice_cmp nat_cmp) (keys_of es) → IsStrictlySortedBy (slice_cmp nat_cmp) (keys_of (filter p es))
unfolding IsStrictlySortedBy
sorted_filter p [] sorted = tt
sorted_filter p (e ∷ es) sorted = sorted_filter_by e (filter p es) (p e) (all_filter (λ key. slice_cmp nat_cmp e.0 key ≡ Less) p es sorted.0) (sorted_filter p es sorted.1)
