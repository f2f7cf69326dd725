-- The least number of a thread. For the proofs of `a_thread_has_one_name` and `the_name_is_the_least_number`.
use Rattle.std.proofs.Common.{◌≡◌, refl, sym, ap, subst, ◌∙◌, ℕ, ◌≤◌, Bool, true, false, List, [], ◌∷◌, map, min, arith, inl, inr, ◌⊎◌, true≢false, cond}
use Rattle.std.specs.Prelude.{Contains, Option, Some, None, unwrap_or}
use Rattle.std.specs.List.{filter}
use Rattle.std.specs.Option.{option_map}
use Rattle.std.proofs.lemmas.Bool.{cases_lt}
use Rattle.std.proofs.lemmas.List.Elements.{filter_agree}
use Rattle.std.proofs.lemmas.Option.{same_Some}
use Rattle.nm_base.specs.declared.facts.LinkRow.{LinkRow}
use Rattle.nm_threads.specs.Same.{Same, is_same}
use Rattle.nm_threads.specs.Name.{least, thread_numbers, thread_name, AreDistinct}
use Rattle.nm_base.specs.KeyLaws.{Contains_there, Contains_first, Contains_cases, Contains_none}
use Rattle.nm_threads.proofs.SameLemmas.{is_same_from, is_same_of, is_same_through, is_same_turned, Same_itself, Same_through, Same_turned}

-- ---- the least of numbers

in_by : (n : ℕ) (more : List ℕ) (rest : Option ℕ) → ((k : ℕ) → rest ≡ Some k → Contains more k) → (x : ℕ) → Some (unwrap_or (option_map (min n) rest) n) ≡ Some x → Contains (n ∷ more) x
in_by n more None among x is = subst (Contains (n ∷ more)) (same_Some n x is) (Contains_first n more)
in_by n more (Some k) among x is =
    let least_is : min n k ≡ x = same_Some (min n k) x is in
    elim (cases_lt n k) [
      | inl lt ↦ let here : n ≡ x = omega arith in subst (Contains (n ∷ more)) here (Contains_first n more)
      | inr le ↦ let there : k ≡ x = omega arith in subst (Contains (n ∷ more)) there (Contains_there n more k (among k refl))
    ]

pub least_in : (ns : List ℕ) (x : ℕ) → least ns ≡ Some x → Contains ns x
least_in [] x is = absurd (cc)
least_in (n ∷ more) x is = in_by n more (least more) (least_in more) x is

below_by : (n : ℕ) (rest : Option ℕ) (x m : ℕ) → Some (unwrap_or (option_map (min n) rest) n) ≡ Some x → (n ≡ m) ⊎ ((k : ℕ) × (rest ≡ Some k) × (k ≤ m)) → x ≤ m
below_by n None x m is (inl here) = omega (arith, same_Some n x is, here)
below_by n None x m is (inr there) = absurd (cc)
below_by n (Some k) x m is (inl here) = omega (arith, same_Some (min n k) x is, here)
below_by n (Some k) x m is (inr there) = omega (arith, same_Some (min n k) x is, same_Some k there.0 there.1, there.2)

some_by : (n : ℕ) (rest : Option ℕ) → (x : ℕ) × (Some (unwrap_or (option_map (min n) rest) n) ≡ Some x)
some_by n rest = (unwrap_or (option_map (min n) rest) n, refl)

pub least_some : (ns : List ℕ) (m : ℕ) → Contains ns m → (x : ℕ) × (least ns ≡ Some x)
least_some [] m among = absurd (Contains_none m among)
least_some (n ∷ more) m among = some_by n (least more)

pub least_le : (ns : List ℕ) (x m : ℕ) → least ns ≡ Some x → Contains ns m → x ≤ m
least_le [] x m is among = absurd (Contains_none m among)
least_le (n ∷ more) x m is among = elim (Contains_cases n more m among) [
  | inl here ↦ below_by n (least more) x m is (inl here)
  | inr there ↦ let some = least_some more m there in below_by n (least more) x m is (inr (some.0, some.1, least_le more some.0 m some.1 there))
]

-- ---- the numbers that pass a test

abbrev numbers : (List ℕ × ℕ → Bool) → List (List ℕ × ℕ) → List ℕ
numbers test entries = map (λ entry. entry.1) (filter test entries)

from_by : (test : List ℕ × ℕ → Bool) (entry : List ℕ × ℕ) (entries : List (List ℕ × ℕ)) (m : ℕ) (passes : Bool) → test entry ≡ passes
    → (Contains (numbers test entries) m → (id : List ℕ) × Contains entries (id, m) × (test (id, m) ≡ true))
    → Contains (map (λ e. e.1) (cond passes (entry ∷ filter test entries) (filter test entries))) m → (id : List ℕ) × Contains (entry ∷ entries) (id, m) × (test (id, m) ≡ true)
from_by test entry entries m true is more among = elim (Contains_cases entry.1 (numbers test entries) m among) [
  | inl here ↦ (entry.0, subst (λ n. Contains (entry ∷ entries) (entry.0, n)) here (Contains_first entry entries), subst (λ n. test (entry.0, n) ≡ true) here is)
  | inr there ↦ let one = more there in (one.0, Contains_there entry entries (one.0, m) one.1, one.2)
]
from_by test entry entries m false is more among = let one = more among in (one.0, Contains_there entry entries (one.0, m) one.1, one.2)

pub numbers_from : (test : List ℕ × ℕ → Bool) (entries : List (List ℕ × ℕ)) (m : ℕ) → Contains (numbers test entries) m → (id : List ℕ) × Contains entries (id, m) × (test (id, m) ≡ true)
numbers_from test [] m among = absurd (Contains_none m among)
numbers_from test (entry ∷ entries) m among = from_by test entry entries m (test entry) refl (numbers_from test entries m) among

of_by : (test : List ℕ × ℕ → Bool) (entry : List ℕ × ℕ) (entries : List (List ℕ × ℕ)) (id : List ℕ) (m : ℕ) (passes : Bool) → test entry ≡ passes → test (id, m) ≡ true
    → (entry ≡ (id, m)) ⊎ Contains (numbers test entries) m → Contains (map (λ e. e.1) (cond passes (entry ∷ filter test entries) (filter test entries))) m
of_by test entry entries id m true is passes (inl here) = subst (λ n. Contains (entry.1 ∷ numbers test entries) n) (ap (λ e. e.1) here) (Contains_first entry.1 (numbers test entries))
of_by test entry entries id m true is passes (inr there) = Contains_there entry.1 (numbers test entries) m there
of_by test entry entries id m false is passes (inl here) = absurd (true≢false (sym passes ∙ sym (ap test here) ∙ is))
of_by test entry entries id m false is passes (inr there) = there

pub numbers_of : (test : List ℕ × ℕ → Bool) (entries : List (List ℕ × ℕ)) (id : List ℕ) (m : ℕ) → Contains entries (id, m) → test (id, m) ≡ true → Contains (numbers test entries) m
numbers_of test [] id m among passes = absurd (Contains_none (id, m) among)
numbers_of test (entry ∷ entries) id m among passes = elim (Contains_cases entry entries (id, m) among) [
  | inl here ↦ of_by test entry entries id m (test entry) refl passes (inl here)
  | inr there ↦ of_by test entry entries id m (test entry) refl passes (inr (numbers_of test entries id m there passes))
]

pub alike : (x y : Bool) → (x ≡ true → y ≡ true) → (y ≡ true → x ≡ true) → x ≡ y
alike true y there back = sym (there refl)
alike false true there back = back refl
alike false false there back = refl

-- ---- the name of a thread

pub name_one : (rows : List LinkRow) (entries : List (List ℕ × ℕ)) (a : List ℕ) (n : ℕ) → thread_name rows entries a ≡ Some n → (id : List ℕ) × Contains entries (id, n) × Same rows a id
name_one rows entries a n is =
    let one = numbers_from (λ entry. is_same rows a entry.0) entries n (least_in (thread_numbers rows entries a) n is) in (one.0, one.1, is_same_from rows a one.0 one.2)

pub name_le : (rows : List LinkRow) (entries : List (List ℕ × ℕ)) (a id : List ℕ) (n m : ℕ) → thread_name rows entries a ≡ Some n → Contains entries (id, m) → Same rows a id → n ≤ m
name_le rows entries a id n m is among same = least_le (thread_numbers rows entries a) n m is (numbers_of (λ entry. is_same rows a entry.0) entries id m among (is_same_of rows a id same))

pub name_some : (rows : List LinkRow) (entries : List (List ℕ × ℕ)) (a id : List ℕ) (m : ℕ) → Contains entries (id, m) → Same rows a id → (x : ℕ) × (thread_name rows entries a ≡ Some x)
name_some rows entries a id m among same = least_some (thread_numbers rows entries a) m (numbers_of (λ entry. is_same rows a entry.0) entries id m among (is_same_of rows a id same))

same_name : (rows : List LinkRow) (entries : List (List ℕ × ℕ)) (a b : List ℕ) → Same rows a b → thread_name rows entries a ≡ thread_name rows entries b
same_name rows entries a b same =
    ap (λ kept. least (map (λ entry. entry.1) kept))
    (filter_agree (λ entry. is_same rows a entry.0) (λ entry. is_same rows b entry.0)
    (λ entry. alike (is_same rows a entry.0) (is_same rows b entry.0)
    (λ first. is_same_through rows b a entry.0 (is_same_turned rows a b (is_same_of rows a b same)) first) (λ second. is_same_through rows a b entry.0 (is_same_of rows a b same) second)) entries)

-- ids with numbers have one name exactly where they are of one thread
pub one_name : (rows : List LinkRow) (entries : List (List ℕ × ℕ)) (a b : List ℕ) (m n : ℕ) → AreDistinct entries → Contains entries (a, m) → Contains entries (b, n)
    → (thread_name rows entries a ≡ thread_name rows entries b → Same rows a b) × (Same rows a b → thread_name rows entries a ≡ thread_name rows entries b)
one_name rows entries a b m n distinct first second = (
  λ equal.
      let name = name_some rows entries a a m first (Same_itself rows a) in
      let one = name_one rows entries a name.0 name.1 in
      let other = name_one rows entries b name.0 (sym equal ∙ name.1) in
      Same_through rows a one.0 b one.2 (Same_turned rows b one.0 (subst (Same rows b) (sym (distinct one.0 other.0 name.0 one.1 other.1)) other.2)),
  same_name rows entries a b,
)
