-- Look-ups by hash, and what a change of a slot does to them.
-- For the proofs of `HashedMap::get`, `HashedMap::insert`, `HashedMap::remove` and others.
use Rattle.std.proofs.Common.{◌≡◌, ◌≢◌, refl, sym, ap, subst, ◌∙◌, cond, ℕ, ◌+◌, ◌<◌, ◌≤◌, Bool, true, false, List, [], ◌∷◌, ◌++◌, arith, inl, inr, ◌⊎◌}
use Rattle.std.specs.Prelude.{Option, Some, None}
use Rattle.std.specs.declared.cmp.Ordering.{Ordering}
use Rattle.std.specs.declared.cmp.Ordering.TheVariants.{Less, Equal, Greater}
use Rattle.std.specs.BTreeMap.{is_at}
use Rattle.std.specs.Cmp.{nat_cmp_is}
use Rattle.std.specs.List.{AllByRecursion, IsDistinct}
use Rattle.std.specs.List.Sorted.{IsStrictlySortedBy}
use Rattle.std.specs.Map.{keys_of, lookup, values_of}
use Rattle.std.specs.Option.{option_and_then}
use Rattle.std.specs.Ordering.{eq_by_cmp, is_eq, nat_cmp}
use Rattle.std.proofs.lemmas.Bool.{cases_eq, cases_order}
use Rattle.std.proofs.lemmas.Map.Keys.{IsDistinct-cons, IsDistinct-from_sorted}
use Rattle.std.proofs.lemmas.Option.{same_Some, none-some}
use Rattle.nm_shared.specs.Hashed.{at, value_of, slot_value, IsHashed}

less_is : (a b : ℕ) → a < b → is_eq (nat_cmp a b) ≡ false
less_is a b lt = ap is_eq (sym (nat_cmp_is a b Less lt))

greater_is : (a b : ℕ) → b < a → is_eq (nat_cmp a b) ≡ false
greater_is a b lt = ap is_eq (sym (nat_cmp_is a b Greater lt))

same_number : (a b : ℕ) → a ≡ b → is_eq (nat_cmp a b) ≡ true
same_number a b is = ap is_eq (sym (nat_cmp_is a b Equal is))

other_number : (a b : ℕ) → a ≢ b → is_eq (nat_cmp a b) ≡ false
other_number a b not = elim (cases_order a b) [ inl is ↦ absurd (not is) | inr (inl lt) ↦ less_is a b lt | inr (inr gt) ↦ greater_is a b gt ]

-- what is below all keys isn't among them
not_below : {X : Type 0} (n : ℕ) (es : List (ℕ × X)) → AllByRecursion (λ m. nat_cmp n m ≡ Less) (keys_of es) → at n es ≡ None
not_below n [] all = refl
not_below n (e ∷ es) all = rw all.0 (not_below n es all.1)

first_gone : {X : Type 0} (e : ℕ × X) (es : List (ℕ × X)) → IsStrictlySortedBy nat_cmp (keys_of (e ∷ es)) → at e.0 es ≡ None
unfolding IsStrictlySortedBy
first_gone e es sorted = not_below e.0 es sorted.0

pub rest_sorted : {X : Type 0} (e : ℕ × X) (es : List (ℕ × X)) → IsStrictlySortedBy nat_cmp (keys_of (e ∷ es)) → IsStrictlySortedBy nat_cmp (keys_of es)
unfolding IsStrictlySortedBy
rest_sorted e es sorted = sorted.1

-- what the others have at a number, all have
rest_at : {X : Type 0} (e : ℕ × X) (es : List (ℕ × X)) → IsStrictlySortedBy nat_cmp (keys_of (e ∷ es)) → (n : ℕ) (x : X) → at n es ≡ Some x → at n (e ∷ es) ≡ Some x
rest_at e es sorted n x is =
    elim (cases_eq n e.0) [
      | inl here ↦ absurd (none-some x (sym (first_gone e es sorted) ∙ ap (λ m. at m es) (sym here) ∙ is))
      | inr apart ↦ ap (λ test. cond test (Some e.1) (at n es)) (other_number n e.0 apart) ∙ is
    ]

-- what a test answers, as two cases
decided : (test : Bool) → (test ≡ true) ⊎ (test ≡ false)
decided true = inl refl
decided false = inr refl

answer_of : {X : Type 0} (o : Option X) → (o ≡ None) ⊎ ((x : X) × (o ≡ Some x))
answer_of None = inl refl
answer_of (Some x) = inr (x, refl)

abbrev pub or_else : {X : Type 0} → Option X → Option X → Option X
or_else None other = other
or_else (Some x) other = Some x

pub lookup_by : {X : Type 0} (x : X) (found : Bool) (first second all : Option X) → all ≡ or_else first second → cond found (Some x) all ≡ or_else (cond found (Some x) first) second
lookup_by x true first second all is = refl
lookup_by x false first second all is = is

pub lookup_both : {K X : Type 0} (test : K → Bool) (xs ys : List (K × X)) → lookup test (xs ++ ys) ≡ or_else (lookup test xs) (lookup test ys)
lookup_both test [] ys = refl
lookup_both test (x ∷ xs) ys = lookup_by x.1 (test x.0) (lookup test xs) (lookup test ys) (lookup test (xs ++ ys)) (lookup_both test xs ys)

module _ {K V : Type 0} (cmp : K → K → Ordering) (hash : K → ℕ) (same : (a b : K) → is_eq (cmp a b) ≡ true → a ≡ b) where
  abbrev Placed : List (ℕ × ℕ) → List (ℕ × (K × V)) → Type 0
  Placed places slots = (slot : ℕ) (pair : K × V) → at slot slots ≡ Some pair → at (hash pair.0) places ≡ Some slot

  rest_placed : (places : List (ℕ × ℕ)) (e : ℕ × (K × V)) (es : List (ℕ × (K × V))) → IsStrictlySortedBy nat_cmp (keys_of (e ∷ es)) → Placed places (e ∷ es) → Placed places es
  rest_placed places e es sorted placed = λ slot pair is. placed slot pair (rest_at e es sorted slot pair is)

  nowhere : (key : K) (place : Option ℕ) → ◌≡◌ {A = Option V} None (option_and_then (λ slot. value_of cmp hash key None) place)
  nowhere key None = refl
  nowhere key (Some slot) = refl

  passed_by : (key : K) (e : ℕ × (K × V)) (es : List (ℕ × (K × V))) → IsStrictlySortedBy nat_cmp (keys_of (e ∷ es)) → is_eq (cmp key e.1.0) ≡ false → (place : Option ℕ)
      → option_and_then (λ slot. value_of cmp hash key (at slot es)) place ≡ option_and_then (λ slot. value_of cmp hash key (at slot (e ∷ es))) place
  passed_by key e es sorted not None = refl
  passed_by key e es sorted not (Some slot) =
      elim (cases_eq slot e.0) [
        | inl here ↦
            ap (value_of cmp hash key) (ap (λ n. at n es) here ∙ first_gone e es sorted)
            ∙ sym (ap (λ test. value_of cmp hash key (cond test (Some e.1) (at slot es))) (same_number slot e.0 here) ∙ ap (λ test. cond test (Some e.1.1) None) not)
        | inr apart ↦ sym (ap (λ test. value_of cmp hash key (cond test (Some e.1) (at slot es))) (other_number slot e.0 apart))
      ]

  slots_by : (places : List (ℕ × ℕ)) (key : K) (e : ℕ × (K × V)) (es : List (ℕ × (K × V))) → IsStrictlySortedBy nat_cmp (keys_of (e ∷ es)) → Placed places (e ∷ es) → (test : Bool) → is_eq (cmp key e.1.0) ≡ test
      → lookup (is_at (cmp key)) (values_of es) ≡ slot_value cmp hash places es key → cond test (Some e.1.1) (lookup (is_at (cmp key)) (values_of es)) ≡ slot_value cmp hash places (e ∷ es) key
  slots_by places key e es sorted placed true is more =
      let head : at e.0 (e ∷ es) ≡ Some e.1 = ap (λ test. cond test (Some e.1) (at e.0 es)) (same_number e.0 e.0 refl) in
      let place : at (hash key) places ≡ Some e.0 = ap (λ k. at (hash k) places) (same key e.1.0 is) ∙ placed e.0 e.1 head in
      sym (ap (option_and_then (λ slot. value_of cmp hash key (at slot (e ∷ es)))) place ∙ ap (value_of cmp hash key) head ∙ ap (λ test. cond test (Some e.1.1) None) is)
  slots_by places key e es sorted placed false is more = more ∙ passed_by key e es sorted is (at (hash key) places)

  -- a look-up by hash finds what a look-up among all slots does
  slots_are : (places : List (ℕ × ℕ)) (slots : List (ℕ × (K × V))) (key : K) → IsStrictlySortedBy nat_cmp (keys_of slots) → Placed places slots → lookup (is_at (cmp key)) (values_of slots) ≡ slot_value cmp hash places slots key
  slots_are places [] key sorted placed = nowhere key (at (hash key) places)
  slots_are places (e ∷ es) key sorted placed =
      slots_by places key e es sorted placed (is_eq (cmp key e.1.0)) refl (slots_are places es key (rest_sorted e es sorted) (rest_placed places e es sorted placed))

  -- ---- each key once

  abbrev Apart : List (K × V) → List (ℕ × (K × V)) → Type 0
  Apart crowded slots = (slot : ℕ) (pair : K × V) → at slot slots ≡ Some pair → lookup (is_at (cmp pair.0)) crowded ≡ None

  rest_apart : (crowded : List (K × V)) (e : ℕ × (K × V)) (es : List (ℕ × (K × V))) → IsStrictlySortedBy nat_cmp (keys_of (e ∷ es)) → Apart crowded (e ∷ es) → Apart crowded es
  rest_apart crowded e es sorted apart = λ slot pair is. apart slot pair (rest_at e es sorted slot pair is)

  not_among_by : (key : K) (e : K × V) (rest : Option V) (others : Type 0) (test : Bool) → is_eq (cmp key e.0) ≡ test → cond test (Some e.1) rest ≡ None → (rest ≡ None → others) → (is_eq (cmp key e.0) ≡ false) × others
  not_among_by key e rest others true is_test none more = absurd (none-some e.1 (sym none))
  not_among_by key e rest others false is_test none more = (is_test, more none)

  -- a key that is not found is none of the keys
  not_among : (key : K) (es : List (K × V)) → lookup (is_at (cmp key)) es ≡ None → AllByRecursion (λ other. eq_by_cmp cmp key other ≡ false) (keys_of es)
  not_among key [] none = tt
  not_among key (e ∷ es) none = not_among_by key e (lookup (is_at (cmp key)) es) (AllByRecursion (λ other. eq_by_cmp cmp key other ≡ false) (keys_of es)) (is_eq (cmp key e.0)) refl none (not_among key es)

  -- the key in the first slot is in no other, nor crowded
  first_alone : (places : List (ℕ × ℕ)) (crowded : List (K × V)) (e : ℕ × (K × V)) (es : List (ℕ × (K × V))) → IsStrictlySortedBy nat_cmp (keys_of (e ∷ es)) → Placed places (e ∷ es) → Apart crowded (e ∷ es)
      → lookup (is_at (cmp e.1.0)) (values_of es ++ crowded) ≡ None
  first_alone places crowded e es sorted placed apart =
      let head : at e.0 (e ∷ es) ≡ Some e.1 = ap (λ test. cond test (Some e.1) (at e.0 es)) (same_number e.0 e.0 refl) in
      let gone : slot_value cmp hash places es e.1.0 ≡ None = ap (option_and_then (λ slot. value_of cmp hash e.1.0 (at slot es))) (placed e.0 e.1 head) ∙ ap (value_of cmp hash e.1.0) (first_gone e es sorted) in
      lookup_both (is_at (cmp e.1.0)) (values_of es) crowded
      ∙ ap (λ o. or_else o (lookup (is_at (cmp e.1.0)) crowded)) (slots_are places es e.1.0 (rest_sorted e es sorted) (rest_placed places e es sorted placed) ∙ gone)
      ∙ apart e.0 e.1 head

  distinct_by : (places : List (ℕ × ℕ)) (crowded : List (K × V)) → IsDistinct (eq_by_cmp cmp) (keys_of crowded) → (slots : List (ℕ × (K × V))) → IsStrictlySortedBy nat_cmp (keys_of slots) → Placed places slots → Apart crowded slots
      → IsDistinct (eq_by_cmp cmp) (keys_of (values_of slots ++ crowded))
  distinct_by places crowded once [] sorted placed apart = once
  distinct_by places crowded once (e ∷ es) sorted placed apart =
      IsDistinct-cons (eq_by_cmp cmp) e.1.0 (keys_of (values_of es ++ crowded)) (not_among e.1.0 (values_of es ++ crowded) (first_alone places crowded e es sorted placed apart))
      (distinct_by places crowded once es (rest_sorted e es sorted) (rest_placed places e es sorted placed) (rest_apart crowded e es sorted apart))

  module _ (places : List (ℕ × ℕ)) (slots : List (ℕ × (K × V))) (crowded : List (K × V)) (next : ℕ) (is : IsHashed cmp hash places slots crowded next) where
    -- each key occurs once among all pairs
    pub keys_once : IsStrictlySortedBy cmp (keys_of crowded) → (all : List (K × V)) → values_of slots ++ crowded ≡ all → IsDistinct (eq_by_cmp cmp) (keys_of all)
    keys_once sorted all are =
        subst (λ (pairs : List (K × V)). IsDistinct (eq_by_cmp cmp) (keys_of pairs)) are (distinct_by places crowded (IsDistinct-from_sorted cmp (keys_of crowded) sorted) slots is.sorted is.placed is.apart)

    -- what a look-up finds among all pairs
    all_are : (key : K) → lookup (is_at (cmp key)) (values_of slots ++ crowded) ≡ or_else (slot_value cmp hash places slots key) (lookup (is_at (cmp key)) crowded)
    all_are key = lookup_both (is_at (cmp key)) (values_of slots) crowded ∙ ap (λ o. or_else o (lookup (is_at (cmp key)) crowded)) (slots_are places slots key is.sorted is.placed)

    -- a key without a slot is found among the crowded ones
    pub found_crowded : (key : K) → slot_value cmp hash places slots key ≡ None → lookup (is_at (cmp key)) (values_of slots ++ crowded) ≡ lookup (is_at (cmp key)) crowded
    found_crowded key none = all_are key ∙ ap (λ o. or_else o (lookup (is_at (cmp key)) crowded)) none

    slot_is : (key : K) (slot : ℕ) (pair : K × V) → at (hash key) places ≡ Some slot → at slot slots ≡ Some pair → is_eq (cmp key pair.0) ≡ true → slot_value cmp hash places slots key ≡ Some pair.1
    slot_is key slot pair place there equal = ap (option_and_then (λ n. value_of cmp hash key (at n slots))) place ∙ ap (value_of cmp hash key) there ∙ ap (λ test. cond test (Some pair.1) None) equal

    -- and a key with one there
    pub found_slot : (key : K) (slot : ℕ) (pair : K × V) → at (hash key) places ≡ Some slot → at slot slots ≡ Some pair → is_eq (cmp key pair.0) ≡ true → lookup (is_at (cmp key)) (values_of slots ++ crowded) ≡ Some pair.1
    found_slot key slot pair place there equal = all_are key ∙ ap (λ o. or_else o (lookup (is_at (cmp key)) crowded)) (slot_is key slot pair place there equal)

    -- no slot has a key without one
    not_in_slot : (key : K) → slot_value cmp hash places slots key ≡ None → (slot : ℕ) (pair : K × V) → at slot slots ≡ Some pair → (test : Bool) → is_eq (cmp pair.0 key) ≡ test → test ≡ false
    not_in_slot key none slot pair there false equal = refl
    not_in_slot key none slot pair there true equal =
        let one : pair.0 ≡ key = same pair.0 key equal in
        absurd
        (none-some pair.1
        (sym none ∙ slot_is key slot pair (ap (λ k. at (hash k) places) (sym one) ∙ is.placed slot pair there) there (ap (λ k. is_eq (cmp k pair.0)) (sym one) ∙ ap (λ k. is_eq (cmp pair.0 k)) one ∙ equal)))

    -- ---- what changes one key only

    -- the pairs once the crowded ones have another answer for a key without a slot
    pub crowded_changed : (key : K) (answer : Option V) (new : List (K × V)) → slot_value cmp hash places slots key ≡ None → ((other : K) → lookup (is_at (cmp other)) new ≡ cond (is_eq (cmp other key)) answer (lookup (is_at (cmp other)) crowded))
        → IsHashed cmp hash places slots new next
    crowded_changed key answer new none new_are =
        record {
          sorted = is.sorted;
          below = is.below;
          placed = is.placed;
          apart = λ slot pair there. new_are pair.0 ∙ ap (λ test. cond test answer (lookup (is_at (cmp pair.0)) crowded)) (not_in_slot key none slot pair there (is_eq (cmp pair.0 key)) refl) ∙ is.apart slot pair there;
        }

    -- the pairs once a hash that led to no pair leads to a slot
    pub placed_more : (key : K) (code slot : ℕ) (new : List (ℕ × ℕ)) → code ≡ hash key → option_and_then (λ n. at n slots) (at (hash key) places) ≡ None → ((h : ℕ) → at h new ≡ cond (is_eq (nat_cmp h code)) (Some slot) (at h places))
        → IsHashed cmp hash new slots crowded next
    placed_more key code slot new code_is free new_are =
        record {
          sorted = is.sorted;
          below = is.below;
          apart = is.apart;
          placed = λ n pair there.
              new_are (hash pair.0)
              ∙ ap (λ test. cond test (Some slot) (at (hash pair.0) places))
              (other_number (hash pair.0) code (λ one. none-some pair (sym free ∙ ap (option_and_then (λ m. at m slots)) (ap (λ h. at h places) (sym (one ∙ code_is)) ∙ is.placed n pair there) ∙ there)))
              ∙ is.placed n pair there;
        }

    nothing_at : (slot : ℕ) → next ≤ slot → at slot slots ≡ None
    nothing_at slot le = elim (answer_of (at slot slots)) [ inl none ↦ none | inr some ↦ absurd (omega (arith, le, is.below slot some.0 some.1)) ]

    -- the values in slots of which one has another answer
    others : (key : K) (new : List (ℕ × (K × V))) (slot : ℕ) → ((n : ℕ) → n ≢ slot → at n new ≡ at n slots) → value_of cmp hash key (at slot new) ≡ None → value_of cmp hash key (at slot slots) ≡ None
        → (place : Option ℕ) → option_and_then (λ n. value_of cmp hash key (at n new)) place ≡ option_and_then (λ n. value_of cmp hash key (at n slots)) place
    others key new slot there here_new here None = refl
    others key new slot there here_new here (Some n) =
        elim (cases_eq n slot) [
          | inl one ↦ ap (λ m. value_of cmp hash key (at m new)) one ∙ here_new ∙ sym (ap (λ m. value_of cmp hash key (at m slots)) one ∙ here)
          | inr apart ↦ ap (value_of cmp hash key) (there n apart)
        ]

  -- a pair in a slot is what its key finds, however the slot was come by
  pub found_by_hint : (places : List (ℕ × ℕ)) (slots : List (ℕ × (K × V))) (crowded : List (K × V)) (next : ℕ) → IsHashed cmp hash places slots crowded next → (key : K) (slot : ℕ) (pair : K × V) → at slot slots ≡ Some pair → is_eq (cmp key pair.0) ≡ true
      → lookup (is_at (cmp key)) (values_of slots ++ crowded) ≡ Some pair.1
  found_by_hint places slots crowded next is key slot pair there equal = found_slot places slots crowded next is key slot pair (ap (λ k. at (hash k) places) (same key pair.0 equal) ∙ is.placed slot pair there) there equal

  -- ---- the crowded pairs

  crowded_by : (places : List (ℕ × ℕ)) (slots : List (ℕ × (K × V))) (crowded new : List (K × V)) (next : ℕ) (is : IsHashed cmp hash places slots crowded next) (is_new : IsHashed cmp hash places slots new next)
      (key other : K) (answer : Option V) → slot_value cmp hash places slots key ≡ None → (test : Bool) → is_eq (cmp other key) ≡ test → lookup (is_at (cmp other)) new ≡ cond test answer (lookup (is_at (cmp other)) crowded)
      → lookup (is_at (cmp other)) (values_of slots ++ new) ≡ cond test answer (lookup (is_at (cmp other)) (values_of slots ++ crowded))
  crowded_by places slots crowded new next is is_new key other answer none true equal new_is =
      found_crowded places slots new next is_new other (ap (slot_value cmp hash places slots) (same other key equal) ∙ none) ∙ new_is
  crowded_by places slots crowded new next is is_new key other answer none false equal new_is =
      all_are places slots new next is_new other ∙ ap (or_else (slot_value cmp hash places slots other)) new_is ∙ sym (all_are places slots crowded next is other)

  -- a key without a slot has another answer among all pairs where it has it among the crowded ones
  pub crowded_are : (places : List (ℕ × ℕ)) (slots : List (ℕ × (K × V))) (crowded new : List (K × V)) (next : ℕ) (is : IsHashed cmp hash places slots crowded next) (key : K) (answer : Option V) → slot_value cmp hash places slots key ≡ None
      → ((other : K) → lookup (is_at (cmp other)) new ≡ cond (is_eq (cmp other key)) answer (lookup (is_at (cmp other)) crowded))
      → (other : K) → lookup (is_at (cmp other)) (values_of slots ++ new) ≡ cond (is_eq (cmp other key)) answer (lookup (is_at (cmp other)) (values_of slots ++ crowded))
  crowded_are places slots crowded new next is key answer none new_are = λ other.
      crowded_by places slots crowded new next is (crowded_changed places slots crowded next is key answer new none new_are) key other answer none (is_eq (cmp other key)) refl (new_are other)

  -- ---- a pair comes into a slot

  module _ (places more : List (ℕ × ℕ)) (slots new : List (ℕ × (K × V))) (crowded : List (K × V)) (next after : ℕ) (is : IsHashed cmp hash places slots crowded next) (key : K) (value : V) (slot : ℕ)
      (sorted : IsStrictlySortedBy nat_cmp (keys_of new)) (new_are : (n : ℕ) → at n new ≡ cond (is_eq (nat_cmp n slot)) (Some (key, value)) (at n slots))
      (lt : slot < after) (le : next ≤ after) (alone : lookup (is_at (cmp key)) crowded ≡ None) (place : at (hash key) more ≡ Some slot)
      (places_stay : (n : ℕ) (pair : K × V) → n ≢ slot → at n slots ≡ Some pair → at (hash pair.0) more ≡ Some n) where
    put_here : at slot new ≡ Some (key, value)
    put_here = new_are slot ∙ ap (λ test. cond test (Some (key, value)) (at slot slots)) (same_number slot slot refl)

    put_there : (n : ℕ) → n ≢ slot → at n new ≡ at n slots
    put_there n apart = new_are n ∙ ap (λ test. cond test (Some (key, value)) (at n slots)) (other_number n slot apart)

    cases_put : (n : ℕ) (pair : K × V) → at n new ≡ Some pair → ((slot ≡ n) × (◌≡◌ {A = K × V} (key, value) pair)) ⊎ ((n ≢ slot) × (at n slots ≡ Some pair))
    cases_put n pair there = elim (cases_eq n slot) [
      | inl here ↦ inl (sym here, same_Some (key, value) pair (sym put_here ∙ ap (λ m. at m new) (sym here) ∙ there))
      | inr apart ↦ inr (apart, sym (put_there n apart) ∙ there)
    ]

    pub put_hashed : IsHashed cmp hash more new crowded after
    put_hashed =
        record {
          sorted = sorted;
          below = λ n pair there. elim (cases_put n pair there) [ inl here ↦ subst (λ m. m < after) here.0 lt | inr old ↦ omega (arith, le, is.below n pair old.1) ];
          placed = λ n pair there. elim (cases_put n pair there) [ inl here ↦ ap (λ p. at (hash p.0) more) (sym here.1) ∙ place ∙ ap (λ m. Some m) here.0 | inr old ↦ places_stay n pair old.0 old.1 ];
          apart = λ n pair there. elim (cases_put n pair there) [ inl here ↦ ap (λ p. lookup (is_at (cmp p.0)) crowded) (sym here.1) ∙ alone | inr old ↦ is.apart n pair old.1 ];
        }

    put_by : (other : K) (test : Bool) → is_eq (cmp other key) ≡ test
        → (test ≡ false → slot_value cmp hash more new other ≡ slot_value cmp hash places slots other)
        → lookup (is_at (cmp other)) (values_of new ++ crowded) ≡ cond test (Some value) (lookup (is_at (cmp other)) (values_of slots ++ crowded))
    put_by other true equal stay = found_slot more new crowded after put_hashed other slot (key, value) (ap (λ k. at (hash k) more) (same other key equal) ∙ place) put_here equal
    put_by other false equal stay = all_are more new crowded after put_hashed other ∙ ap (λ o. or_else o (lookup (is_at (cmp other)) crowded)) (stay refl) ∙ sym (all_are places slots crowded next is other)

    not_put : (other : K) → is_eq (cmp other key) ≡ false → value_of cmp hash other (at slot new) ≡ None
    not_put other not = ap (value_of cmp hash other) put_here ∙ ap (λ test. cond test (Some value) None) not

  -- another value in the slot of a key
  module _ (places : List (ℕ × ℕ)) (slots new : List (ℕ × (K × V))) (crowded : List (K × V)) (next : ℕ) (is : IsHashed cmp hash places slots crowded next) (key : K) (value : V) (slot : ℕ) (pair : K × V)
      (place : at (hash key) places ≡ Some slot) (there : at slot slots ≡ Some pair) (equal : is_eq (cmp key pair.0) ≡ true)
      (sorted : IsStrictlySortedBy nat_cmp (keys_of new)) (new_are : (n : ℕ) → at n new ≡ cond (is_eq (nat_cmp n slot)) (Some (key, value)) (at n slots)) where
    one : pair.0 ≡ key
    one = sym (same key pair.0 equal)

    alone : lookup (is_at (cmp key)) crowded ≡ None
    alone = ap (λ k. lookup (is_at (cmp k)) crowded) (sym one) ∙ is.apart slot pair there

    pub replaced_hashed : IsHashed cmp hash places new crowded next
    replaced_hashed = put_hashed places places slots new crowded next next is key value slot sorted new_are (is.below slot pair there) (omega arith) alone place (λ n p apart at_n. is.placed n p at_n)

    pub replaced_are : (other : K) → lookup (is_at (cmp other)) (values_of new ++ crowded) ≡ cond (is_eq (cmp other key)) (Some value) (lookup (is_at (cmp other)) (values_of slots ++ crowded))
    replaced_are other =
        put_by places places slots new crowded next next is key value slot sorted new_are (is.below slot pair there) (omega arith) alone place (λ n p apart at_n. is.placed n p at_n) other (is_eq (cmp other key)) refl
        (λ not. others places slots crowded next is other new slot (λ n apart. put_there places places slots new crowded next next is key value slot sorted new_are (is.below slot pair there) (omega arith) alone place (λ n p apart at_n. is.placed n p at_n) n apart)
        (not_put places places slots new crowded next next is key value slot sorted new_are (is.below slot pair there) (omega arith) alone place (λ n p apart at_n. is.placed n p at_n) other not)
        (ap (value_of cmp hash other) there ∙ ap (λ k. cond (is_eq (cmp other k)) (Some pair.1) None) one ∙ ap (λ test. cond test (Some pair.1) None) not)
        (at (hash other) places))

  -- a key that was nowhere comes into the next slot
  module _ (places more : List (ℕ × ℕ)) (slots new : List (ℕ × (K × V))) (crowded : List (K × V)) (next : ℕ) (is : IsHashed cmp hash places slots crowded next) (key : K) (value : V) (code : ℕ)
      (code_is : code ≡ hash key) (free : option_and_then (λ n. at n slots) (at (hash key) places) ≡ None) (alone : lookup (is_at (cmp key)) crowded ≡ None)
      (more_are : (h : ℕ) → at h more ≡ cond (is_eq (nat_cmp h code)) (Some next) (at h places))
      (sorted : IsStrictlySortedBy nat_cmp (keys_of new)) (new_are : (n : ℕ) → at n new ≡ cond (is_eq (nat_cmp n next)) (Some (key, value)) (at n slots)) where
    place : at (hash key) more ≡ Some next
    place = more_are (hash key) ∙ ap (λ test. cond test (Some next) (at (hash key) places)) (same_number (hash key) code (sym code_is))

    stay : (n : ℕ) (pair : K × V) → n ≢ next → at n slots ≡ Some pair → at (hash pair.0) more ≡ Some n
    stay n pair apart there = (placed_more places slots crowded next is key code next more code_is free more_are).placed n pair there

    pub last_hashed : IsHashed cmp hash more new crowded (next + 1)
    last_hashed = put_hashed places more slots new crowded next (next + 1) is key value next sorted new_are (omega arith) (omega arith) alone place stay

    nothing : at next slots ≡ None
    nothing = nothing_at places slots crowded next is next (omega arith)

    -- a place that leads to no pair finds nothing for a key that didn't come
    stale : (other : K) → value_of cmp hash other (at next new) ≡ None → (place : Option ℕ) → option_and_then (λ n. at n slots) place ≡ None → option_and_then (λ n. value_of cmp hash other (at n new)) place ≡ None
    stale other not None gone = refl
    stale other not (Some n) gone =
        elim (cases_eq n next) [
          | inl here ↦ ap (λ m. value_of cmp hash other (at m new)) here ∙ not
          | inr apart ↦ ap (value_of cmp hash other) (new_are n ∙ ap (λ test. cond test (Some (key, value)) (at n slots)) (other_number n next apart) ∙ gone)
        ]

    elsewhere : (other : K) → value_of cmp hash other (at next new) ≡ None → (hash other ≡ code) ⊎ (hash other ≢ code)
        → option_and_then (λ n. value_of cmp hash other (at n new)) (at (hash other) more) ≡ option_and_then (λ n. value_of cmp hash other (at n new)) (at (hash other) places)
    elsewhere other not (inl here) =
        ap (option_and_then (λ n. value_of cmp hash other (at n new))) (more_are (hash other) ∙ ap (λ test. cond test (Some next) (at (hash other) places)) (same_number (hash other) code here))
        ∙ not
        ∙ sym (ap (λ h. option_and_then (λ n. value_of cmp hash other (at n new)) (at h places)) (here ∙ code_is) ∙ stale other not (at (hash key) places) free)
    elsewhere other not (inr apart) =
        ap (option_and_then (λ n. value_of cmp hash other (at n new))) (more_are (hash other) ∙ ap (λ test. cond test (Some next) (at (hash other) places)) (other_number (hash other) code apart))

    pub last_are : (other : K) → lookup (is_at (cmp other)) (values_of new ++ crowded) ≡ cond (is_eq (cmp other key)) (Some value) (lookup (is_at (cmp other)) (values_of slots ++ crowded))
    last_are other =
        put_by places more slots new crowded next (next + 1) is key value next sorted new_are (omega arith) (omega arith) alone place stay other (is_eq (cmp other key)) refl
        (λ not.
        let away : value_of cmp hash other (at next new) ≡ None = not_put places more slots new crowded next (next + 1) is key value next sorted new_are (omega arith) (omega arith) alone place stay other not in
        elsewhere other away (cases_eq (hash other) code)
        ∙ others places slots crowded next is other new next (λ n apart. put_there places more slots new crowded next (next + 1) is key value next sorted new_are (omega arith) (omega arith) alone place stay n apart)
        away (ap (value_of cmp hash other) nothing) (at (hash other) places))

  -- ---- a slot becomes empty

  module _ (places : List (ℕ × ℕ)) (slots new : List (ℕ × (K × V))) (crowded : List (K × V)) (next : ℕ) (is : IsHashed cmp hash places slots crowded next) (key : K) (slot : ℕ) (pair : K × V)
      (place : at (hash key) places ≡ Some slot) (there : at slot slots ≡ Some pair) (equal : is_eq (cmp key pair.0) ≡ true)
      (sorted : IsStrictlySortedBy nat_cmp (keys_of new)) (new_are : (n : ℕ) → at n new ≡ cond (is_eq (nat_cmp n slot)) None (at n slots)) where
    gone_here : at slot new ≡ None
    gone_here = new_are slot ∙ ap (λ test. cond test None (at slot slots)) (same_number slot slot refl)

    gone_there : (n : ℕ) → n ≢ slot → at n new ≡ at n slots
    gone_there n apart = new_are n ∙ ap (λ test. cond test None (at n slots)) (other_number n slot apart)

    gone_old : (n : ℕ) (p : K × V) → at n new ≡ Some p → at n slots ≡ Some p
    gone_old n p at_n = elim (cases_eq n slot) [ inl here ↦ absurd (none-some p (sym (ap (λ m. at m new) here ∙ gone_here) ∙ at_n)) | inr apart ↦ sym (gone_there n apart) ∙ at_n ]

    pub gone_hashed : IsHashed cmp hash places new crowded next
    gone_hashed =
        record {
          sorted = sorted;
          below = λ n p at_n. is.below n p (gone_old n p at_n);
          placed = λ n p at_n. is.placed n p (gone_old n p at_n);
          apart = λ n p at_n. is.apart n p (gone_old n p at_n);
        }

    gone_by : (other : K) (test : Bool) → is_eq (cmp other key) ≡ test → lookup (is_at (cmp other)) (values_of new ++ crowded) ≡ cond test None (lookup (is_at (cmp other)) (values_of slots ++ crowded))
    gone_by other true is_key =
        let one : other ≡ key = same other key is_key in
        all_are places new crowded next gone_hashed other
        ∙ ap (λ o. or_else o (lookup (is_at (cmp other)) crowded)) (ap (option_and_then (λ n. value_of cmp hash other (at n new))) (ap (λ k. at (hash k) places) one ∙ place) ∙ ap (value_of cmp hash other) gone_here)
        ∙ ap (λ k. lookup (is_at (cmp k)) crowded) (one ∙ same key pair.0 equal)
        ∙ is.apart slot pair there
    gone_by other false not =
        all_are places new crowded next gone_hashed other
        ∙ ap (λ o. or_else o (lookup (is_at (cmp other)) crowded))
        (others places slots crowded next is other new slot gone_there (ap (value_of cmp hash other) gone_here) (ap (value_of cmp hash other) there ∙ ap (λ k. cond (is_eq (cmp other k)) (Some pair.1) None) (sym (same key pair.0 equal)) ∙ ap (λ test. cond test (Some pair.1) None) not) (at (hash other) places))
        ∙ sym (all_are places slots crowded next is other)

    pub gone_are : (other : K) → lookup (is_at (cmp other)) (values_of new ++ crowded) ≡ cond (is_eq (cmp other key)) None (lookup (is_at (cmp other)) (values_of slots ++ crowded))
    gone_are other = gone_by other (is_eq (cmp other key)) refl
