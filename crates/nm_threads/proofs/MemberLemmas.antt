-- The numbers of a group, read in order, and moved to another group.
-- For the proofs of `merge`, `move_numbers` and `numbers_of`.
use Rattle.std.proofs.Common.{◌≡◌, ◌≢◌, refl, sym, ap, subst, ◌∙◌, ℕ, ◌+◌, ◌<◌, Bool, true, false, ◌||◌, cond, List, [], ◌∷◌, ◌++◌, length, take, get_or, arith, inl, inr, ◌⊎◌, eq-eqb, ne_eqb, nat_eq, true≢false}
use Rattle.std.specs.Prelude.{Contains, Some, None, Option}
use Rattle.std.specs.declared.cmp.Ordering.TheVariants.{Less, Equal, Greater}
use Rattle.std.specs.BTreeMap.Range.{entries_from}
use Rattle.std.specs.List.{list_any, AllByRecursion}
use Rattle.std.specs.List.Sorted.{IsStrictlySortedBy}
use Rattle.std.specs.Map.{keys_of}
use Rattle.std.specs.Option.{is_some}
use Rattle.std.specs.Ordering.{nat_cmp, ordering_then, is_eq, is_le}
use Rattle.std.proofs.lemmas.Bool.{cases_order, cases_eq}
use Rattle.std.proofs.lemmas.List.{append-nil}
use Rattle.std.proofs.lemmas.List.Folds.{list_any_more, list_any_at}
use Rattle.nm_threads.specs.Maps.{at, at_pair, pair_cmp, is_number, AreMembers}
use Rattle.nm_threads.specs.declared.maps.Member.{Member}
use Rattle.nm_base.specs.KeyLaws.{Contains_there, Contains_first, Contains_cases, Contains_none, less_is, equal_is, greater_is, same_number, other_number}
use Rattle.nm_threads.proofs.SortedLemmas.{Rising, less_from, rising_none, rising_from, entries_filter}
use Rattle.nm_threads.proofs.MapLemmas.{same_pair, other_first, other_second}

-- the numbers that come first, as long as they are of the group
abbrev pub front : ℕ → List ((ℕ × ℕ) × Member) → List ℕ
front group [] = []
front group (e ∷ es) = cond (nat_eq e.0.0 group) (e.0.1 ∷ front group es) []

front_is : (group : ℕ) (e : (ℕ × ℕ) × Member) (es : List ((ℕ × ℕ) × Member)) → e.0.0 ≡ group → front group (e ∷ es) ≡ e.0.1 ∷ front group es
front_is group e es is = ap (λ test. cond test (e.0.1 ∷ front group es) []) (eq-eqb e.0.0 group is)

front_not : (group : ℕ) (e : (ℕ × ℕ) × Member) (es : List ((ℕ × ℕ) × Member)) → e.0.0 ≢ group → front group (e ∷ es) ≡ []
front_not group e es not = ap (λ test. cond test (e.0.1 ∷ front group es) []) (ne_eqb e.0.0 group not)

greater_first : (x y : ℕ × ℕ) → y.0 < x.0 → pair_cmp x y ≡ Greater
greater_first x y lt = ap (λ answer. ordering_then answer (nat_cmp x.1 y.1)) (greater_is x.0 y.0 lt)

-- what comes after a pair of a later group is of no earlier one
none_after : (group number : ℕ) (key : ℕ × ℕ) (es : List ((ℕ × ℕ) × Member)) → group < key.0 → AllByRecursion (λ other. pair_cmp key other ≡ Less) (keys_of es) → at_pair (group, number) es ≡ None
none_after group number key [] lt all = refl
none_after group number key (e ∷ es) lt all =
    let not : group ≢ e.0.0 = λ is. elim (cases_order key.0 e.0.0) [
      | inl same ↦ absurd (omega (arith, lt, is, same))
      | inr (inl below) ↦ absurd (omega (arith, lt, is, below))
      | inr (inr above) ↦ absurd (cc (greater_first key e.0 above, all.0))
    ] in
    ap (λ test. cond test (Some e.1) (at_pair (group, number) es)) (other_first group number e.0.0 e.0.1 not) ∙ none_after group number key es lt all.1

kept_pair : (group : ℕ) (e : (ℕ × ℕ) × Member) (es : List ((ℕ × ℕ) × Member)) (test : Bool) → is_le (pair_cmp (group, 0) e.0) ≡ test → entries_from (pair_cmp (group, 0)) (e ∷ es) ≡ cond test (e ∷ entries_from (pair_cmp (group, 0)) es) (entries_from (pair_cmp (group, 0)) es)
kept_pair group e es test is = ap (λ b. cond b (e ∷ entries_from (pair_cmp (group, 0)) es) (entries_from (pair_cmp (group, 0)) es)) is

from_zero : (n : ℕ) → (nat_cmp 0 n ≡ Less) ⊎ (nat_cmp 0 n ≡ Equal)
from_zero n = elim (cases_order 0 n) [ inl is ↦ inr (equal_is 0 n is) | inr (inl lt) ↦ inl (less_is 0 n lt) | inr (inr gt) ↦ absurd (omega (arith, gt)) ]

here_is : (group : ℕ) (e : (ℕ × ℕ) × Member) → group ≡ e.0.0 → is_le (pair_cmp (group, 0) e.0) ≡ true
here_is group e is = ap (λ answer. is_le (ordering_then answer (nat_cmp 0 e.0.1))) (equal_is group e.0.0 is) ∙ elim (from_zero e.0.1) [ inl less ↦ ap is_le less | inr equal ↦ ap is_le equal ]

number_by : (number m : ℕ) (rest : List ℕ) (found : Option Member) (v : Member) → list_any (nat_eq number) rest ≡ is_some found → (test : Bool) → nat_eq number m ≡ test → (nat_eq number m || list_any (nat_eq number) rest) ≡ is_some (cond test (Some v) found)
number_by number m rest found v more true is = ap (λ b. b || list_any (nat_eq number) rest) is
number_by number m rest found v more false is = ap (λ b. b || list_any (nat_eq number) rest) is ∙ more

pair_test : (group number : ℕ) (key : ℕ × ℕ) → group ≡ key.0 → is_eq (pair_cmp (group, number) key) ≡ nat_eq number key.1
pair_test group number key is = elim (cases_eq number key.1) [ inl same ↦ same_pair group number key.0 key.1 is same ∙ sym (eq-eqb number key.1 same) | inr not ↦ other_second group number key.0 key.1 not ∙ sym (ne_eqb number key.1 not) ]

-- the front is all of the group
pub front_all : (group number : ℕ) (es : List ((ℕ × ℕ) × Member)) → IsStrictlySortedBy pair_cmp (keys_of es) → list_any (nat_eq number) (front group (entries_from (pair_cmp (group, 0)) es)) ≡ is_some (at_pair (group, number) es)
unfolding IsStrictlySortedBy
front_all group number [] sorted = refl
front_all group number (e ∷ es) sorted =
    let more : list_any (nat_eq number) (front group (entries_from (pair_cmp (group, 0)) es)) ≡ is_some (at_pair (group, number) es) = front_all group number es sorted.1 in
    elim (cases_order group e.0.0) [
      | inl is ↦
          ap (λ all. list_any (nat_eq number) (front group all)) (kept_pair group e es true (here_is group e is))
          ∙ ap (list_any (nat_eq number)) (front_is group e (entries_from (pair_cmp (group, 0)) es) (sym is))
          ∙ number_by number e.0.1 (front group (entries_from (pair_cmp (group, 0)) es)) (at_pair (group, number) es) e.1 more (is_eq (pair_cmp (group, number) e.0)) (sym (pair_test group number e.0 is))
      | inr (inl lt) ↦
          let not : group ≢ e.0.0 = λ is. omega (arith, is, lt) in
          ap (λ all. list_any (nat_eq number) (front group all)) (kept_pair group e es true (ap (λ answer. is_le (ordering_then answer (nat_cmp 0 e.0.1))) (less_is group e.0.0 lt)))
          ∙ ap (list_any (nat_eq number)) (front_not group e (entries_from (pair_cmp (group, 0)) es) (λ is. not (sym is)))
          ∙ sym (ap is_some (ap (λ test. cond test (Some e.1) (at_pair (group, number) es)) (other_first group number e.0.0 e.0.1 not) ∙ none_after group number e.0 es lt sorted.0))
      | inr (inr gt) ↦
          let not : group ≢ e.0.0 = λ is. omega (arith, is, gt) in
          ap (λ all. list_any (nat_eq number) (front group all)) (kept_pair group e es false (ap (λ answer. is_le (ordering_then answer (nat_cmp 0 e.0.1))) (greater_is group e.0.0 gt)))
          ∙ more
          ∙ sym (ap is_some (ap (λ test. cond test (Some e.1) (at_pair (group, number) es)) (other_first group number e.0.0 e.0.1 not)))
    ]

-- ---- the numbers of a group rise

front_from : (group : ℕ) (es : List ((ℕ × ℕ) × Member)) (n : ℕ) → Contains (front group es) n → (e : (ℕ × ℕ) × Member) × Contains es e × (e.0.0 ≡ group) × (e.0.1 ≡ n)
front_from group [] n among = absurd (Contains_none n among)
front_from group (e ∷ es) n among = elim (cases_eq e.0.0 group) [
  | inl is ↦
      elim (Contains_cases e.0.1 (front group es) n (subst (λ all. Contains all n) (front_is group e es is) among)) [
        | inl here ↦ (e, Contains_first e es, is, here)
        | inr there ↦ let one = front_from group es n there in (one.0, Contains_there e es one.0 one.1, one.2, one.3)
      ]
  | inr not ↦ absurd (Contains_none n (subst (λ all. Contains all n) (front_not group e es not) among))
]

less_second : (x y : ℕ × ℕ) → x.0 ≡ y.0 → pair_cmp x y ≡ Less → x.1 < y.1
less_second x y same less = less_from x.1 y.1 (sym (ap (λ answer. ordering_then answer (nat_cmp x.1 y.1)) (equal_is x.0 y.0 same)) ∙ less)

keys_after : (key : ℕ × ℕ) (es : List ((ℕ × ℕ) × Member)) → AllByRecursion (λ other. pair_cmp key other ≡ Less) (keys_of es) → (e : (ℕ × ℕ) × Member) → Contains es e → pair_cmp key e.0 ≡ Less
keys_after key [] all e among = absurd (Contains_none e among)
keys_after key (f ∷ es) all e among = elim (Contains_cases f es e among) [ inl here ↦ subst (λ x. pair_cmp key x.0 ≡ Less) here all.0 | inr there ↦ keys_after key es all.1 e there ]

pub front_rising : (group : ℕ) (es : List ((ℕ × ℕ) × Member)) → IsStrictlySortedBy pair_cmp (keys_of es) → Rising (front group es)
unfolding IsStrictlySortedBy
front_rising group [] sorted = rising_none
front_rising group (e ∷ es) sorted = elim (cases_eq e.0.0 group) [
  | inl is ↦
      subst Rising (sym (front_is group e es is))
      (rising_from e.0.1 (front group es)
      (λ n among. let one = front_from group es n among in subst (λ k. e.0.1 < k) one.3 (less_second e.0 one.0.0 (is ∙ sym one.2) (keys_after e.0 es sorted.0 one.0 one.1)))
      (front_rising group es sorted.1))
  | inr not ↦ subst Rising (sym (front_not group e es not)) rising_none
]

-- ---- numbers moved

pub is_number_from : (group : ℕ) (found : Option ℕ) → is_number group found ≡ true → found ≡ Some group
is_number_from group None is = absurd (true≢false (sym is))
is_number_from group (Some other) is = elim (cases_eq group other) [ inl same ↦ ap Some (sym same) | inr not ↦ absurd (true≢false (sym is ∙ ne_eqb group other not)) ]

module _ (members moved : List ((ℕ × ℕ) × Member)) (groups after : List (ℕ × ℕ)) (from to here : ℕ) (member : Member) (are : AreMembers members groups) (stands : (at here groups ≡ Some from) ⊎ (at here groups ≡ Some to))
    (groups_are : (n : ℕ) → at n after ≡ cond (is_eq (nat_cmp n here)) (Some to) (at n groups))
    (members_are : (pair : ℕ × ℕ) → at_pair pair moved ≡ cond (is_eq (pair_cmp pair (to, here))) (Some member) (cond (is_eq (pair_cmp pair (from, here))) None (at_pair pair members))) where
  groups_here : (n : ℕ) → n ≡ here → at n after ≡ Some to
  groups_here n is = groups_are n ∙ ap (λ test. cond test (Some to) (at n groups)) (same_number n here is)

  groups_other : (n : ℕ) → n ≢ here → at n after ≡ at n groups
  groups_other n not = groups_are n ∙ ap (λ test. cond test (Some to) (at n groups)) (other_number n here not)

  not_there : (g n : ℕ) → n ≡ here → g ≢ from → g ≢ to → is_some (at_pair (g, n) members) ≡ false
  not_there g n is not_from not_to =
      are g n ∙ ap (λ k. is_number g (at k groups)) is ∙ elim stands [ inl at_from ↦ ap (is_number g) at_from ∙ ne_eqb g from not_from | inr at_to ↦ ap (is_number g) at_to ∙ ne_eqb g to not_to ]

  moved_by : (g n : ℕ) → (n ≡ here) ⊎ (n ≢ here) → (g ≡ to) ⊎ (g ≢ to) → (g ≡ from) ⊎ (g ≢ from) → is_some (at_pair (g, n) moved) ≡ is_number g (at n after)
  moved_by g n (inl is) (inl at_to) at_from =
      ap is_some (members_are (g, n) ∙ ap (λ test. cond test (Some member) (cond (is_eq (pair_cmp (g, n) (from, here))) None (at_pair (g, n) members))) (same_pair g n to here at_to is))
      ∙ sym (ap (is_number g) (groups_here n is) ∙ eq-eqb g to at_to)
  moved_by g n (inl is) (inr not_to) (inl at_from) =
      ap is_some
      (members_are (g, n) ∙ ap (λ test. cond test (Some member) (cond (is_eq (pair_cmp (g, n) (from, here))) None (at_pair (g, n) members))) (other_first g n to here not_to)
      ∙ ap (λ test. cond test None (at_pair (g, n) members)) (same_pair g n from here at_from is))
      ∙ sym (ap (is_number g) (groups_here n is) ∙ ne_eqb g to not_to)
  moved_by g n (inl is) (inr not_to) (inr not_from) =
      ap is_some
      (members_are (g, n) ∙ ap (λ test. cond test (Some member) (cond (is_eq (pair_cmp (g, n) (from, here))) None (at_pair (g, n) members))) (other_first g n to here not_to)
      ∙ ap (λ test. cond test None (at_pair (g, n) members)) (other_first g n from here not_from))
      ∙ not_there g n is not_from not_to ∙ sym (ap (is_number g) (groups_here n is) ∙ ne_eqb g to not_to)
  moved_by g n (inr not) to_case from_case =
      ap is_some
      (members_are (g, n) ∙ ap (λ test. cond test (Some member) (cond (is_eq (pair_cmp (g, n) (from, here))) None (at_pair (g, n) members))) (other_second g n to here not)
      ∙ ap (λ test. cond test None (at_pair (g, n) members)) (other_second g n from here not))
      ∙ are g n ∙ ap (is_number g) (sym (groups_other n not))

  pub members_moved : AreMembers moved after
  members_moved = λ g n. moved_by g n (cases_eq n here) (cases_eq g to) (cases_eq g from)

-- ---- what the loops need

pub numbers_all : (group : ℕ) (numbers : List ℕ) (rest members : List ((ℕ × ℕ) × Member)) → numbers ++ front group rest ≡ front group (entries_from (pair_cmp (group, 0)) members) → front group rest ≡ [] → IsStrictlySortedBy pair_cmp (keys_of members)
    → (number : ℕ) → list_any (nat_eq number) numbers ≡ is_some (at_pair (group, number) members)
numbers_all group numbers rest members so_far none sorted = λ number. ap (list_any (nat_eq number)) (sym (append-nil numbers) ∙ ap (λ back. numbers ++ back) (sym none) ∙ so_far) ∙ front_all group number members sorted

pub numbers_rise : (group : ℕ) (numbers : List ℕ) (rest members : List ((ℕ × ℕ) × Member)) → numbers ++ front group rest ≡ front group (entries_from (pair_cmp (group, 0)) members) → front group rest ≡ [] → IsStrictlySortedBy pair_cmp (keys_of members) → Rising numbers
numbers_rise group numbers rest members so_far none sorted =
    subst Rising (sym so_far ∙ ap (λ back. numbers ++ back) none ∙ append-nil numbers)
    (front_rising group (entries_from (pair_cmp (group, 0)) members) (entries_filter pair_cmp (λ key. is_le (pair_cmp (group, 0) key)) members sorted))

pub no_front : (group : ℕ) (rest after : List ((ℕ × ℕ) × Member)) (e : (ℕ × ℕ) × Member) → rest ≡ e ∷ after → (e.0.0 ≡ group → ⊥) → front group rest ≡ []
no_front group rest after e is not = ap (front group) is ∙ front_not group e after not

pub stands_by : (from to : ℕ) (found now : Option ℕ) (test : Bool) → now ≡ cond test (Some to) found → found ≡ Some from → (now ≡ Some from) ⊎ (now ≡ Some to)
stands_by from to found now true is at_from = inr is
stands_by from to found now false is at_from = inl (is ∙ at_from)

more_by : (n here to : ℕ) (before : Bool) (old : Option ℕ) → (n ≡ here) ⊎ (n ≢ here) → cond (is_eq (nat_cmp n here)) (Some to) (cond before (Some to) old) ≡ cond (before || nat_eq n here) (Some to) old
more_by n here to true old (inl is) = ap (λ test. cond test (Some to) (Some to)) (same_number n here is)
more_by n here to false old (inl is) = ap (λ test. cond test (Some to) old) (same_number n here is) ∙ sym (ap (λ test. cond test (Some to) old) (eq-eqb n here is))
more_by n here to true old (inr not) = ap (λ test. cond test (Some to) (Some to)) (other_number n here not)
more_by n here to false old (inr not) = ap (λ test. cond test (Some to) old) (other_number n here not) ∙ sym (ap (λ test. cond test (Some to) old) (ne_eqb n here not))

-- one number more is moved
pub groups_more : (numbers : List ℕ) (i to : ℕ) (groups after initial : List (ℕ × ℕ)) → i < length numbers
    → ((n : ℕ) → at n after ≡ cond (is_eq (nat_cmp n (get_or numbers i 0))) (Some to) (at n groups))
    → ((n : ℕ) → at n groups ≡ cond (list_any (nat_eq n) (take i numbers)) (Some to) (at n initial))
    → (n : ℕ) → at n after ≡ cond (list_any (nat_eq n) (take (i + 1) numbers)) (Some to) (at n initial)
groups_more numbers i to groups after initial lt after_are groups_are = λ n.
    after_are n
    ∙ ap (λ old. cond (is_eq (nat_cmp n (get_or numbers i 0))) (Some to) old) (groups_are n)
    ∙ more_by n (get_or numbers i 0) to (list_any (nat_eq n) (take i numbers)) (at n initial) (cases_eq n (get_or numbers i 0))
    ∙ ap (λ test. cond test (Some to) (at n initial)) (sym (list_any_more (nat_eq n) numbers i 0 lt))

pub number_among : (numbers : List ℕ) (i from : ℕ) (initial : List (ℕ × ℕ)) → i < length numbers → ((n : ℕ) → list_any (nat_eq n) numbers ≡ is_number from (at n initial)) → at (get_or numbers i 0) initial ≡ Some from
number_among numbers i from initial lt are =
    let here : ℕ = get_or numbers i 0 in is_number_from from (at here initial) (sym (are here) ∙ list_any_at (nat_eq here) numbers i 0 lt (eq-eqb here here refl))

pub number_test : (n here : ℕ) → is_eq (nat_cmp n here) ≡ nat_eq n here
number_test n here = elim (cases_eq n here) [ inl is ↦ same_number n here is ∙ sym (eq-eqb n here is) | inr not ↦ other_number n here not ∙ sym (ne_eqb n here not) ]
