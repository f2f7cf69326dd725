-- The kept rows of one mail are side by side: their bytes begin alike.
-- For the proofs of `forget_mail`, `forget_rows` and `row_of_mail`.
use Rattle.std.proofs.Common.{◌≡◌, refl, sym, ap, subst, ◌∙◌, ℕ, ◌+◌, Bool, true, false, ◌||◌, not, cond, List, [], ◌∷◌, ◌++◌, length, take, arith, inl, inr, true≢false, eq-eqb}
use Rattle.std.proofs.Math.Bool.{or-false}
use Rattle.std.specs.Prelude.{Contains, Some, slice_index_or, ◌<◌, nat_eq}
use Rattle.std.specs.BTreeMap.{is_at}
use Rattle.std.specs.BTreeMap.Range.{entries_from}
use Rattle.std.specs.Cmp.Lexicographic.{slice_cmp}
use Rattle.std.specs.List.{filter, starts_with}
use Rattle.std.specs.List.Sorted.{IsStrictlySortedBy}
use Rattle.std.specs.Map.{keys_of, lookup, remove_entry, values_of}
use Rattle.std.specs.Ordering.{is_le, nat_cmp, ordering_then}
use Rattle.std.specs.declared.cmp.Ordering.TheVariants.{Less}
use Rattle.std.proofs.lemmas.Bool.{and_from, cases_order, false_from_ne_true}
use Rattle.std.proofs.lemmas.List.{take_more}
use Rattle.std.proofs.lemmas.Option.{none-some, same_Some}
use Rattle.nm_base.specs.Order.{has_text, same_text}
use Rattle.nm_base.specs.declared.facts.LinkRow.{LinkRow}
use Rattle.nm_codec.specs.Encoding.{list_bytes, text_bytes}
use Rattle.nm_tables.specs.Kept.{AreKept}
use Rattle.nm_base.specs.KeyLaws.{Contains_first, Contains_there, Contains_cases, Contains_none, Contains_map, Contains_from_map, all_at, equal_is, greater_is, same_text_from, text_same}
use Rattle.nm_tables.proofs.KeptLemmas.{sorted_filter}
use Rattle.nm_shared.specs.EntryLaws.{sorted_remove}
use Rattle.nm_tables.specs.FilterLaws.{filter_same, in_filter, from_filter}
use Rattle.nm_tables.specs.FoundLaws.{value_found}

abbrev Rows : Type 0
Rows = List (List ℕ × LinkRow)

-- ---- texts that begin alike

pub begins_below : (start rest : List ℕ) → is_le (slice_cmp nat_cmp start (start ++ rest)) ≡ true
begins_below [] [] = refl
begins_below [] (y ∷ rest) = refl
begins_below (x ∷ start) rest = ap (λ answer. is_le (ordering_then answer (slice_cmp nat_cmp start (start ++ rest)))) (equal_is x x refl) ∙ begins_below start rest

-- what is between two texts that begin alike begins so too
pub between : (start text rest : List ℕ) → is_le (slice_cmp nat_cmp start text) ≡ true → slice_cmp nat_cmp text (start ++ rest) ≡ Less → (more : List ℕ) × (text ≡ start ++ more)
between [] text rest low high = (text, refl)
between (x ∷ start) [] rest low high = absurd (true≢false (sym low))
between (x ∷ start) (y ∷ text) rest low high = elim (cases_order x y) [
  | inl same ↦
      let inner = between start text rest (sym (ap (λ answer. is_le (ordering_then answer (slice_cmp nat_cmp start text))) (equal_is x y same)) ∙ low)
      (sym (ap (λ answer. ordering_then answer (slice_cmp nat_cmp text (start ++ rest))) (equal_is y x (sym same))) ∙ high) in
      (inner.0, (λ i. sym same i ∷ inner.1 i))
  | inr (inl lt) ↦ absurd (true≢false (sym (ap is_le (sym (ap (λ answer. ordering_then answer (slice_cmp nat_cmp text (start ++ rest))) (greater_is y x lt)) ∙ high))))
  | inr (inr gt) ↦ absurd (true≢false (sym low ∙ ap (λ answer. is_le (ordering_then answer (slice_cmp nat_cmp start text))) (greater_is x y gt)))
]

-- ---- no row of the mail

module _ (kept : Rows) (are : AreKept kept) (id start : List ℕ) (start_is : start ≡ text_bytes id) where
  abbrev ahead : Rows
  ahead = entries_from (slice_cmp nat_cmp start) kept

  key_is : (x : List ℕ × LinkRow) → Contains kept x → x.1.id ≡ id → x.0 ≡ start ++ list_bytes text_bytes x.1.links
  key_is x among same = are.keyed x among ∙ ap (λ text. text_bytes text ++ list_bytes text_bytes x.1.links) same ∙ ap (λ front. front ++ list_bytes text_bytes x.1.links) (sym start_is)

  is_ahead : (x : List ℕ × LinkRow) → Contains kept x → x.1.id ≡ id → Contains ahead x
  is_ahead x among same =
      in_filter (λ (e : List ℕ × LinkRow). is_le (slice_cmp nat_cmp start e.0)) kept x among
      (ap (λ key. is_le (slice_cmp nat_cmp start key)) (key_is x among same) ∙ begins_below start (list_bytes text_bytes x.1.links))

  sorted_ahead : IsStrictlySortedBy (slice_cmp nat_cmp) (keys_of ahead)
  sorted_ahead = sorted_filter (λ (e : List ℕ × LinkRow). is_le (slice_cmp nat_cmp start e.0)) kept are.sorted

  value_of : (row : LinkRow) → Contains (values_of kept) row → row.id ≡ id → (x : List ℕ × LinkRow) × Contains ahead x × (x.0 ≡ start ++ list_bytes text_bytes x.1.links)
  value_of row among same =
      let one = Contains_from_map (λ (e : List ℕ × LinkRow). e.1) kept row among in
      let own : one.0.1.id ≡ id = ap (λ (r : LinkRow). r.id) one.2 ∙ same in (one.0, is_ahead one.0 one.1 own, key_is one.0 one.1 own)

  pub none_ahead : ahead ≡ [] → (row : LinkRow) → Contains (values_of kept) row → same_text row.id id ≡ false
  none_ahead none row among =
      false_from_ne_true (same_text row.id id)
      (λ same. let one = value_of row among (same_text_from row.id id same) in Contains_none one.0 (subst (λ es. Contains es one.0) none one.1))

  less_than_rest : (e : List ℕ × LinkRow) (more : Rows) → IsStrictlySortedBy (slice_cmp nat_cmp) (keys_of (e ∷ more)) → (x : List ℕ × LinkRow) → Contains more x → slice_cmp nat_cmp e.0 x.0 ≡ Less
  unfolding IsStrictlySortedBy
  less_than_rest e more sorted x among = all_at (λ key. slice_cmp nat_cmp e.0 key ≡ Less) (keys_of more) sorted.0 x.0 (Contains_map (λ y. y.0) more x among)

  pub other_ahead : (e : List ℕ × LinkRow) (more : Rows) → ahead ≡ e ∷ more → ((rest : List ℕ) → e.0 ≡ start ++ rest → ⊥) → (row : LinkRow) → Contains (values_of kept) row → same_text row.id id ≡ false
  other_ahead e more is not row among =
      false_from_ne_true (same_text row.id id)
      (λ same.
      let one = value_of row among (same_text_from row.id id same) in
      let first = from_filter (λ (x : List ℕ × LinkRow). is_le (slice_cmp nat_cmp start x.0)) kept e (subst (λ es. Contains es e) (sym is) (Contains_first e more)) in
      elim (Contains_cases e more one.0 (subst (λ es. Contains es one.0) is one.1)) [
        | inl here ↦ not (list_bytes text_bytes one.0.1.links) (ap (λ (x : List ℕ × LinkRow). x.0) here ∙ one.2)
        | inr there ↦
            let less = less_than_rest e more (subst (λ es. IsStrictlySortedBy (slice_cmp nat_cmp) (keys_of es)) is sorted_ahead) one.0 there in
            let inner = between start e.0 (list_bytes text_bytes one.0.1.links) first.1 (sym (ap (λ key. slice_cmp nat_cmp e.0 key) one.2) ∙ less) in not inner.0 inner.1
      ])

  pub found_ahead : (e : List ℕ × LinkRow) (more : Rows) → ahead ≡ e ∷ more → lookup (is_at (slice_cmp nat_cmp e.0)) kept ≡ Some e.1
  found_ahead e more is =
      value_found kept are.sorted e (from_filter (λ (x : List ℕ × LinkRow). is_le (slice_cmp nat_cmp start x.0)) kept e (subst (λ es. Contains es e) (sym is) (Contains_first e more))).0

-- ---- a row less

module _ (test : List ℕ → Bool) where
  shorter_by : (e : List ℕ × LinkRow) (es : Rows) (row : LinkRow) (answer : Bool) → cond answer (Some e.1) (lookup test es) ≡ Some row → (lookup test es ≡ Some row → length (remove_entry test es) + 1 ≡ length es)
      → length (cond answer es (e ∷ remove_entry test es)) + 1 ≡ length (e ∷ es)
  shorter_by e es row true found more = omega arith
  shorter_by e es row false found more = omega (arith, more found)

  pub shorter : (es : Rows) (row : LinkRow) → lookup test es ≡ Some row → length (remove_entry test es) + 1 ≡ length es
  shorter [] row found = absurd (none-some row found)
  shorter (e ∷ es) row found = shorter_by e es row (test e.0) found (shorter es row)

  left_by : (e : List ℕ × LinkRow) (es : Rows) (x : List ℕ × LinkRow) (answer : Bool) → Contains (cond answer es (e ∷ remove_entry test es)) x → (Contains (remove_entry test es) x → Contains es x) → Contains (e ∷ es) x
  left_by e es x true among more = Contains_there e es x among
  left_by e es x false among more = elim (Contains_cases e (remove_entry test es) x among) [
    | inl here ↦ subst (λ y. Contains (e ∷ es) y) here (Contains_first e es)
    | inr there ↦ Contains_there e es x (more there)
  ]

  left : (es : Rows) (x : List ℕ × LinkRow) → Contains (remove_entry test es) x → Contains es x
  left [] x among = among
  left (e ∷ es) x among = left_by e es x (test e.0) among (left es x)

  module _ (passes : LinkRow → Bool) where
    dropped : (row first : LinkRow) (rest : List LinkRow) → first ≡ row → passes row ≡ false → rest ≡ cond (passes first) (first ∷ rest) rest
    dropped row first rest same fails = ap (λ b. cond b (first ∷ rest) rest) (sym (ap passes same ∙ fails))

    rest_by : (e : List ℕ × LinkRow) (es : Rows) (row : LinkRow) (answer : Bool) → passes row ≡ false → cond answer (Some e.1) (lookup test es) ≡ Some row
        → (lookup test es ≡ Some row → filter passes (values_of (remove_entry test es)) ≡ filter passes (values_of es))
        → filter passes (values_of (cond answer es (e ∷ remove_entry test es))) ≡ cond (passes e.1) (e.1 ∷ filter passes (values_of es)) (filter passes (values_of es))
    rest_by e es row true fails found more = dropped row e.1 (filter passes (values_of es)) (same_Some e.1 row found) fails
    rest_by e es row false fails found more = ap (λ rest. cond (passes e.1) (e.1 ∷ rest) rest) (more found)

    -- the rows that pass are the same
    pub rest_passes : (es : Rows) (row : LinkRow) → passes row ≡ false → lookup test es ≡ Some row → filter passes (values_of (remove_entry test es)) ≡ filter passes (values_of es)
    rest_passes [] row fails found = absurd (none-some row found)
    rest_passes (e ∷ es) row fails found = rest_by e es row (test e.0) fails found (rest_passes es row fails)

pub kept_less : (kept new : Rows) (key : List ℕ) → AreKept kept → new ≡ remove_entry (is_at (slice_cmp nat_cmp key)) kept → AreKept new
kept_less kept new key are is =
    subst AreKept (sym is) (record {
      sorted = sorted_remove (slice_cmp nat_cmp) (is_at (slice_cmp nat_cmp key)) kept are.sorted;
      keyed = λ e among. are.keyed e (left (is_at (slice_cmp nat_cmp key)) kept e among);
    })

-- ---- all rows of the mail

abbrev pub others : List ℕ → LinkRow → Bool
others id row = not (same_text row.id id)

pub all_stay : (xs : List LinkRow) → filter (λ _. true) xs ≡ xs
all_stay [] = refl
all_stay (x ∷ xs) = ap (λ more. x ∷ more) (all_stay xs)

-- where no row is of the mail, the others are all
pub no_more : (kept : Rows) (rows : List LinkRow) (id : List ℕ) → ((row : LinkRow) → Contains (values_of kept) row → same_text row.id id ≡ false) → filter (λ row. not (same_text row.id id)) (values_of kept) ≡ rows → values_of kept ≡ rows
no_more kept rows id none is = sym (filter_same (others id) (λ _. true) (values_of kept) (λ row among. ap not (none row among)) ∙ all_stay (values_of kept)) ∙ is

pub one_less : (kept new : Rows) (rows : List LinkRow) (id key : List ℕ) (row : LinkRow) → row.id ≡ id → lookup (is_at (slice_cmp nat_cmp key)) kept ≡ Some row → new ≡ remove_entry (is_at (slice_cmp nat_cmp key)) kept
    → filter (λ row. not (same_text row.id id)) (values_of kept) ≡ rows → filter (λ row. not (same_text row.id id)) (values_of new) ≡ rows
one_less kept new rows id key row same found new_is is =
    ap (λ es. filter (others id) (values_of es)) new_is ∙ rest_passes (is_at (slice_cmp nat_cmp key)) (others id) kept row (ap not (text_same row.id id same)) found ∙ is

-- ---- the rows of several mails

both_by : (p q r : LinkRow → Bool) (x : LinkRow) (xs : List LinkRow) (first : Bool) → (first ≡ true → q x ≡ r x) → (first ≡ false → r x ≡ false) → filter q (filter p xs) ≡ filter r xs
    → filter q (cond first (x ∷ filter p xs) (filter p xs)) ≡ cond (r x) (x ∷ filter r xs) (filter r xs)
both_by p q r x xs true same other more = λ i. cond (same refl i) (x ∷ more i) (more i)
both_by p q r x xs false same other more = more ∙ ap (λ b. cond b (x ∷ filter r xs) (filter r xs)) (sym (other refl))

both : (p q r : LinkRow → Bool) (xs : List LinkRow) → ((x : LinkRow) → p x ≡ true → q x ≡ r x) → ((x : LinkRow) → p x ≡ false → r x ≡ false) → filter q (filter p xs) ≡ filter r xs
both p q r [] same other = refl
both p q r (x ∷ xs) same other = both_by p q r x xs (p x) (same x) (other x) (both p q r xs same other)

has_push : (ids : List (List ℕ)) (id other : List ℕ) → has_text (ids ++ id ∷ []) other ≡ (has_text ids other || same_text other id)
has_push [] id other = or-false (same_text other id)
has_push (x ∷ ids) id other = (λ i. same_text other x || has_push ids id other i) ∙ grouped (same_text other x) (has_text ids other) (same_text other id)
  where
    grouped : (a b c : Bool) → (a || (b || c)) ≡ ((a || b) || c)
    grouped true b c = refl
    grouped false b c = refl

not_either : (a b : Bool) → not a ≡ true → not b ≡ not (a || b)
not_either true b is = absurd (true≢false (sym is))
not_either false b is = refl

not_one : (a b : Bool) → not a ≡ false → not (a || b) ≡ false
not_one true b is = refl
not_one false b is = absurd (true≢false is)

pub one_more_mail : (rows : List LinkRow) (kept new : Rows) (ids : List (List ℕ)) (i : ℕ) (id : List ℕ) → i < length ids → id ≡ slice_index_or ids i id → values_of kept ≡ filter (λ row. not (has_text (take i ids) row.id)) rows
    → values_of new ≡ filter (λ row. not (same_text row.id id)) (values_of kept) → values_of new ≡ filter (λ row. not (has_text (take (i + 1) ids) row.id)) rows
one_more_mail rows kept new ids i id lt item is more =
    let so_far : List (List ℕ) = take i ids in
    let all : take (i + 1) ids ≡ so_far ++ id ∷ [] = take_more ids i id lt ∙ ap (λ x. so_far ++ x ∷ []) (sym item) in
    more ∙ ap (filter (others id)) is
    ∙ both (λ row. not (has_text so_far row.id)) (others id) (λ row. not (has_text (so_far ++ id ∷ []) row.id)) rows
    (λ row stays. not_either (has_text so_far row.id) (same_text row.id id) stays ∙ ap not (sym (has_push so_far id row.id)))
    (λ row goes. ap not (has_push so_far id row.id) ∙ not_one (has_text so_far row.id) (same_text row.id id) goes)
    ∙ ap (λ (texts : List (List ℕ)). filter (λ row. not (has_text texts row.id)) rows) (sym all)

begins : (start rest : List ℕ) → starts_with nat_eq (start ++ rest) start ≡ true
begins [] [] = refl
begins [] (y ∷ rest) = refl
begins (x ∷ start) rest = and_from (nat_eq x x) (starts_with nat_eq (start ++ rest) start) (eq-eqb x x refl) (begins start rest)

pub begins_not : (start text : List ℕ) → false ≡ starts_with nat_eq text start → (rest : List ℕ) → text ≡ start ++ rest → ⊥
begins_not start text not rest is = true≢false (sym (begins start rest) ∙ ap (λ all. starts_with nat_eq all start) (sym is) ∙ sym not)

pub same_by : (b : Bool) → false ≡ not b → b ≡ true
same_by true is = refl
same_by false is = absurd (true≢false (sym is))
