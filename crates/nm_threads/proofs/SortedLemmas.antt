-- Numbers that rise, and maps by numbers. For the proof of `remove_number`.
use Rattle.std.proofs.Common.{◌≡◌, ◌≢◌, refl, sym, ap, subst, ◌∙◌, ℕ, zero, suc, ◌<◌, Bool, false, cond, not, List, [], ◌∷◌, ◌++◌, length, take, get_or, arith, inl, inr, ◌⊎◌, eq-eqb, ne_eqb, nat_eq}
use Rattle.std.specs.Prelude.{Contains, Some, None}
use Rattle.std.specs.BTreeMap.{is_at}
use Rattle.std.specs.List.{filter, list_any, AllByRecursion}
use Rattle.std.specs.List.Sorted.{IsStrictlySortedBy}
use Rattle.std.specs.Map.{keys_of, remove_entry}
use Rattle.std.specs.Ordering.{nat_cmp}
use Rattle.std.specs.declared.cmp.Ordering.{Ordering}
use Rattle.std.specs.declared.cmp.Ordering.TheVariants.{Less}
use Rattle.std.proofs.lemmas.Bool.{cases_order, cases_eq, or_from}
use Rattle.std.proofs.lemmas.List.Elements.{Contains-push_cases}
use Rattle.std.proofs.lemmas.List.Kept.{IsStrictlySortedBy-filter}
use Rattle.std.proofs.lemmas.Option.{same_Some, none-some}
use Rattle.nm_threads.specs.Maps.{at}
use Rattle.nm_threads.proofs.FilterLemmas.{filter_yes, filter_no, filter_all, filter_map_among}
use Rattle.nm_base.specs.KeyLaws.{Contains_there, Contains_first, Contains_cases, Contains_none, Contains_map, less_is, equal_is, greater_is, same_number, other_number}

pub less_from : (a b : ℕ) → nat_cmp a b ≡ Less → a < b
less_from a b is = elim (cases_order a b) [ inl same ↦ absurd (cc (equal_is a b same, is)) | inr (inl lt) ↦ lt | inr (inr gt) ↦ absurd (cc (greater_is a b gt, is)) ]

abbrev pub Rising : List ℕ → Type 0
Rising numbers = IsStrictlySortedBy nat_cmp numbers

pub above_from : (n : ℕ) (ns : List ℕ) → AllByRecursion (λ m. nat_cmp n m ≡ Less) ns → (m : ℕ) → Contains ns m → n < m
above_from n [] all m among = absurd (Contains_none m among)
above_from n (k ∷ ns) all m among = elim (Contains_cases k ns m among) [ inl here ↦ subst (λ x. n < x) here (less_from n k all.0) | inr there ↦ above_from n ns all.1 m there ]

pub above_of : (n : ℕ) (ns : List ℕ) → ((m : ℕ) → Contains ns m → n < m) → AllByRecursion (λ m. nat_cmp n m ≡ Less) ns
above_of n [] all = tt
above_of n (k ∷ ns) all = (less_is n k (all k (Contains_first k ns)), above_of n ns (λ m among. all m (Contains_there k ns m among)))

-- the first is below those after it
pub first_below : (n : ℕ) (ns : List ℕ) → Rising (n ∷ ns) → (m : ℕ) → Contains ns m → n < m
unfolding IsStrictlySortedBy
first_below n ns rising m among = above_from n ns rising.0 m among

pub rising_more : (n : ℕ) (ns : List ℕ) → Rising (n ∷ ns) → Rising ns
unfolding IsStrictlySortedBy
rising_more n ns rising = rising.1

pub rising_from : (n : ℕ) (ns : List ℕ) → ((m : ℕ) → Contains ns m → n < m) → Rising ns → Rising (n ∷ ns)
unfolding IsStrictlySortedBy
rising_from n ns below rising = (above_of n ns below, rising)

pub rising_none : Rising []
unfolding IsStrictlySortedBy
rising_none = tt

pub rising_push : (ns : List ℕ) (n : ℕ) → Rising ns → ((m : ℕ) → Contains ns m → m < n) → Rising (ns ++ n ∷ [])
rising_push [] n rising below = rising_from n [] (λ m among. absurd (Contains_none m among)) rising_none
rising_push (k ∷ ns) n rising below =
    rising_from k (ns ++ n ∷ [])
    (λ m among. elim (Contains-push_cases ns n m among) [ inl old ↦ first_below k ns rising m old | inr here ↦ subst (λ x. k < x) here (below k (Contains_first k ns)) ])
    (rising_push ns n (rising_more k ns rising) (λ m among. below m (Contains_there k ns m among)))

-- rising lists of the same numbers are one
pub rising_same : (ns ms : List ℕ) → Rising ns → Rising ms → ((n : ℕ) → Contains ns n → Contains ms n) → ((n : ℕ) → Contains ms n → Contains ns n) → ns ≡ ms
rising_same [] [] first second there back = refl
rising_same [] (m ∷ ms) first second there back = absurd (Contains_none m (back m (Contains_first m ms)))
rising_same (n ∷ ns) [] first second there back = absurd (Contains_none n (there n (Contains_first n ns)))
rising_same (n ∷ ns) (m ∷ ms) first second there back =
    let heads : n ≡ m = elim (Contains_cases m ms n (there n (Contains_first n ns))) [
      | inl here ↦ sym here
      | inr above ↦ elim (Contains_cases n ns m (back m (Contains_first m ms))) [ inl here ↦ here | inr below ↦ absurd (omega (arith, first_below m ms second n above, first_below n ns first m below)) ]
    ] in
    let tails : ns ≡ ms =
    rising_same ns ms (rising_more n ns first) (rising_more m ms second)
    (λ k among. elim (Contains_cases m ms k (there k (Contains_there n ns k among))) [ inl here ↦ absurd (omega (arith, first_below n ns first k among, heads, here)) | inr more ↦ more ])
    (λ k among. elim (Contains_cases n ns k (back k (Contains_there m ms k among))) [ inl here ↦ absurd (omega (arith, first_below m ms second k among, heads, here)) | inr more ↦ more ]) in
    ap (λ x. x ∷ ns) heads ∙ ap (λ xs. m ∷ xs) tails

-- ---- maps by numbers

pub entries_filter : {K V : Type 0} (cmp : K → K → Ordering) (p : K → Bool) (es : List (K × V)) → IsStrictlySortedBy cmp (keys_of es) → IsStrictlySortedBy cmp (keys_of (filter (λ e. p e.0) es))
entries_filter cmp p es sorted = subst (IsStrictlySortedBy cmp) (filter_map_among (λ e. e.0) p (λ e. p e.0) es (λ e among. refl)) (IsStrictlySortedBy-filter cmp p (keys_of es) sorted)

module _ {V : Type 0} where
  -- what a look-up finds is there
  pub at_from : (n : ℕ) (es : List (ℕ × V)) (x : V) → at n es ≡ Some x → Contains es (n, x)
  at_from n [] x is = absurd (none-some x is)
  at_from n (e ∷ es) x is = elim (cases_eq n e.0) [
    | inl same ↦
        let value : e.1 ≡ x = same_Some e.1 x (sym (ap (λ test. cond test (Some e.1) (at n es)) (same_number n e.0 same)) ∙ is) in
        subst (λ k. Contains (e ∷ es) (k, x)) (sym same) (subst (λ v. Contains (e ∷ es) (e.0, v)) value (Contains_first e es))
    | inr apart ↦ Contains_there e es (n, x) (at_from n es x (sym (ap (λ test. cond test (Some e.1) (at n es)) (other_number n e.0 apart)) ∙ is))
  ]

  -- and what is there is found
  pub at_not_none : (n : ℕ) (es : List (ℕ × V)) (x : V) → Contains es (n, x) → at n es ≡ None → ⊥
  at_not_none n [] x among is = Contains_none (n, x) among
  at_not_none n (e ∷ es) x among is = elim (cases_eq n e.0) [
    | inl same ↦ none-some e.1 (sym is ∙ ap (λ test. cond test (Some e.1) (at n es)) (same_number n e.0 same))
    | inr apart ↦
        elim (Contains_cases e es (n, x) among) [
          | inl here ↦ apart (ap (λ y. y.0) (sym here))
          | inr there ↦ at_not_none n es x there (sym (ap (λ test. cond test (Some e.1) (at n es)) (other_number n e.0 apart)) ∙ is)
        ]
  ]

  pub keys_filter : (p : ℕ → Bool) (es : List (ℕ × V)) → Rising (keys_of es) → Rising (keys_of (filter (λ e. p e.0) es))
  keys_filter p es rising = entries_filter nat_cmp p es rising

  without_by : (n : ℕ) (e : ℕ × V) (es : List (ℕ × V)) → Rising (keys_of (e ∷ es)) → remove_entry (is_at (nat_cmp n)) es ≡ filter (λ other. not (nat_eq other.0 n)) es → (n ≡ e.0) ⊎ (n ≢ e.0)
      → remove_entry (is_at (nat_cmp n)) (e ∷ es) ≡ filter (λ other. not (nat_eq other.0 n)) (e ∷ es)
  without_by n e es rising more (inl is) =
      ap (λ test. cond test es (e ∷ remove_entry (is_at (nat_cmp n)) es)) (same_number n e.0 is)
      ∙ sym
      (filter_no (λ other. not (nat_eq other.0 n)) e es (ap not (eq-eqb e.0 n (sym is)))
      ∙ filter_all (λ other. not (nat_eq other.0 n)) es (λ other among. ap not (ne_eqb other.0 n (λ same. omega (arith, first_below e.0 (keys_of es) rising other.0 (Contains_map (λ x. x.0) es other among), same, is)))))
  without_by n e es rising more (inr apart) =
      ap (λ test. cond test es (e ∷ remove_entry (is_at (nat_cmp n)) es)) (other_number n e.0 apart)
      ∙ ap (λ all. e ∷ all) more
      ∙ sym (filter_yes (λ other. not (nat_eq other.0 n)) e es (ap not (ne_eqb e.0 n (λ same. apart (sym same)))))

  -- what is left once an entry goes
  pub remove_is : (n : ℕ) (es : List (ℕ × V)) → Rising (keys_of es) → remove_entry (is_at (nat_cmp n)) es ≡ filter (λ other. not (nat_eq other.0 n)) es
  remove_is n [] rising = refl
  remove_is n (e ∷ es) rising = without_by n e es rising (remove_is n es (rising_more e.0 (keys_of es) rising)) (cases_eq n e.0)

get_or_among : (ns : List ℕ) (i : ℕ) → i < length ns → Contains ns (get_or ns i 0)
get_or_among [] i lt = absurd (omega (arith, lt))
get_or_among (n ∷ ns) zero lt = Contains_first n ns
get_or_among (n ∷ ns) (suc i) lt = Contains_there n ns (get_or ns i 0) (get_or_among ns i (omega (arith, lt)))

-- a number is none of those before it
pub none_before : (ns : List ℕ) (i : ℕ) → i < length ns → Rising ns → list_any (nat_eq (get_or ns i 0)) (take i ns) ≡ false
none_before [] i lt rising = absurd (omega (arith, lt))
none_before (n ∷ ns) zero lt rising = refl
none_before (n ∷ ns) (suc i) lt rising =
    or_from (nat_eq (get_or ns i 0) n) (list_any (nat_eq (get_or ns i 0)) (take i ns))
    (ne_eqb (get_or ns i 0) n (λ is. omega (arith, first_below n ns rising (get_or ns i 0) (get_or_among ns i (omega (arith, lt))), is)))
    (none_before ns i (omega (arith, lt)) (rising_more n ns rising))
