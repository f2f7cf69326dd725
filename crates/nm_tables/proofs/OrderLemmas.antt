-- Pairs in the order of their keys: what an insertion and a removal leave in order, and what is where.
-- For `FileTableLemmas`, `KeptLemmas`, `MailRowLemmas` and others.
use Rattle.std.proofs.Common.{◌≡◌, ◌≢◌, refl, sym, ap, subst, ◌∙◌, ℕ, ◌<◌, cond, true≢false, Bool, true, false, List, [], ◌∷◌, ◌++◌, map, inl, inr}
use Rattle.std.specs.Prelude.{Contains, Some, if◌then◌else◌}
use Rattle.std.specs.declared.cmp.Ordering.{Ordering}
use Rattle.std.specs.declared.cmp.Ordering.TheVariants.{Less, Equal, Greater}
use Rattle.std.specs.Ordering.{ordering_reverse, is_eq, nat_cmp, match_ordering}
use Rattle.std.specs.Cmp.{IsTotalOrder}
use Rattle.std.specs.List.{AllByRecursion}
use Rattle.std.specs.List.Sorted.{IsStrictlySortedBy}
use Rattle.std.specs.Map.{keys_of, lookup}
use Rattle.std.specs.BTreeMap.{insert_entry, is_at}
use Rattle.std.proofs.lemmas.Cmp.{nat_cmp_total}
use Rattle.std.proofs.lemmas.Option.{none-some, same_Some}
use Rattle.nm_shared.specs.EntryLaws.{all_insert}
use Rattle.nm_tables.specs.FoundLaws.{above_first, not_first, sorted_rest}
use Rattle.nm_base.specs.KeyLaws.{Contains_there, Contains_first, Contains_cases, Contains_none, same_number, other_number, number_from, greater_is}

turned : {K : Type 0} {cmp : K → K → Ordering} (order : IsTotalOrder cmp) (x y : K) (answer : Ordering) → cmp x y ≡ answer → cmp y x ≡ ordering_reverse answer
turned order x y answer is = order.antisymm y x ∙ ap ordering_reverse is

module _ {K V : Type 0} {cmp : K → K → Ordering} (order : IsTotalOrder cmp) where
  pub above_all : (key e : K) (ys : List (K × V)) → AllByRecursion (λ y. cmp e y ≡ Less) (keys_of ys) → cmp key e ≡ Less → AllByRecursion (λ y. cmp key y ≡ Less) (keys_of ys)
  above_all key e [] all less = tt
  above_all key e (y ∷ ys) all less = (order.trans key e y.0 less all.0, above_all key e ys all.1 less)

  sorted_insert_by : (e : K × V) (es : List (K × V)) (key : K) (value : V) (answer : Ordering) → cmp key e.0 ≡ answer → IsStrictlySortedBy cmp (keys_of (e ∷ es))
      → IsStrictlySortedBy cmp (keys_of (insert_entry cmp es key value)) → IsStrictlySortedBy cmp (keys_of (insert_entry cmp (e ∷ es) key value))
  unfolding IsStrictlySortedBy
  sorted_insert_by e es key value Less is sorted rest = rw is ((is, above_all key e.0 es sorted.0 is), sorted)
  sorted_insert_by e es key value Equal is sorted rest = rw is sorted
  sorted_insert_by e es key value Greater is sorted rest = rw is (all_insert cmp (λ y. cmp e.0 y ≡ Less) es key value sorted.0 (turned order key e.0 Greater is), rest)

  -- an insertion keeps the order
  pub sorted_insert : (es : List (K × V)) (key : K) (value : V) → IsStrictlySortedBy cmp (keys_of es) → IsStrictlySortedBy cmp (keys_of (insert_entry cmp es key value))
  unfolding IsStrictlySortedBy
  sorted_insert [] key value sorted = (tt, tt)
  sorted_insert (e ∷ es) key value sorted = sorted_insert_by e es key value (cmp key e.0) refl sorted (sorted_insert es key value sorted.1)

pub sorted_none : {K : Type 0} (V : Type 0) (cmp : K → K → Ordering) → IsStrictlySortedBy cmp (keys_of {K = K} {X = V} [])
unfolding IsStrictlySortedBy
sorted_none V cmp = tt

-- ---- pairs by number

-- no number is below one that is below it
less_twice : (a b : ℕ) → nat_cmp a b ≡ Less → nat_cmp b a ≡ Less → ⊥
less_twice a b first second = true≢false (sym (same_number a a refl) ∙ ap is_eq (nat_cmp_total.trans a b a first second))

module _ {V : Type 0} where
  in_by : (e : ℕ × V) (es : List (ℕ × V)) (n : ℕ) (v : V) (test : Bool) → is_eq (nat_cmp n e.0) ≡ test → (lookup (is_at (nat_cmp n)) es ≡ Some v → Contains es (n, v))
      → cond test (Some e.1) (lookup (is_at (nat_cmp n)) es) ≡ Some v → Contains (e ∷ es) (n, v)
  in_by e es n v true is more found =
      subst (λ m. Contains (e ∷ es) (m, v)) (sym (number_from n e.0 is)) (subst (λ x. Contains (e ∷ es) (e.0, x)) (same_Some e.1 v found) (Contains_first e es))
  in_by e es n v false is more found = Contains_there e es (n, v) (more found)

  -- what is found is there
  pub found_in : (es : List (ℕ × V)) (n : ℕ) (v : V) → lookup (is_at (nat_cmp n)) es ≡ Some v → Contains es (n, v)
  found_in [] n v found = absurd (none-some v found)
  found_in (e ∷ es) n v found = in_by e es n v (is_eq (nat_cmp n e.0)) refl (found_in es n v) found

  -- an entry above all others is the last
  pub pushed_entry : (es : List (ℕ × V)) (key : ℕ) (value : V) → ((x : ℕ × V) → Contains es x → x.0 < key) → insert_entry nat_cmp es key value ≡ es ++ (key, value) ∷ []
  pushed_entry [] key value below = refl
  pushed_entry (e ∷ es) key value below =
      rw (greater_is key e.0 (below e (Contains_first e es))) (ap (λ more. e ∷ more) (pushed_entry es key value (λ x among. below x (Contains_there e es x among))))

  -- an entry with another value, if it is the one of the number
  abbrev pub revalued : ℕ → V → ℕ × V → ℕ × V
  revalued n v e = (e.0, (if is_eq (nat_cmp n e.0) then v else e.1))

  left_alone : (n : ℕ) (v : V) (es : List (ℕ × V)) → ((x : ℕ × V) → Contains es x → n ≢ x.0) → map (revalued n v) es ≡ es
  left_alone n v [] apart = refl
  left_alone n v (e ∷ es) apart = rw (other_number n e.0 (apart e (Contains_first e es))) (ap (λ more. e ∷ more) (left_alone n v es (λ x among. apart x (Contains_there e es x among))))

  inserted_by : (e : ℕ × V) (es : List (ℕ × V)) (n : ℕ) (v w : V) (answer : Ordering) → nat_cmp n e.0 ≡ answer → IsStrictlySortedBy nat_cmp (keys_of (e ∷ es)) → Contains (e ∷ es) (n, w)
      → (Contains es (n, w) → insert_entry nat_cmp es n v ≡ map (revalued n v) es)
      → match_ordering answer ((n, v) ∷ e ∷ es) ((e.0, v) ∷ es) (e ∷ insert_entry nat_cmp es n v) ≡ (e.0, (if is_eq answer then v else e.1)) ∷ map (revalued n v) es
  inserted_by e es n v w Less is sorted among more = absurd (elim (Contains_cases e es (n, w) among) [
    | inl here ↦ true≢false (sym (same_number n e.0 (sym (ap (λ y. y.0) here))) ∙ ap is_eq is)
    | inr there ↦ less_twice n e.0 is (above_first e es sorted (n, w) there)
  ])
  inserted_by e es n v w Equal is sorted among more =
      ap (λ rest. (e.0, v) ∷ rest) (sym (left_alone n v es (λ x there same. not_first e es sorted x there (sym (number_from n e.0 (ap is_eq is)) ∙ same))))
  inserted_by e es n v w Greater is sorted among more = elim (Contains_cases e es (n, w) among) [
    | inl here ↦ absurd (true≢false (sym (same_number n e.0 (sym (ap (λ y. y.0) here))) ∙ ap is_eq is))
    | inr there ↦ ap (λ rest. e ∷ rest) (more there)
  ]

  -- a number that is there has the new value, in its place
  pub inserted_at : (es : List (ℕ × V)) (n : ℕ) (v w : V) → IsStrictlySortedBy nat_cmp (keys_of es) → Contains es (n, w) → insert_entry nat_cmp es n v ≡ map (revalued n v) es
  inserted_at [] n v w sorted among = absurd (Contains_none (n, w) among)
  inserted_at (e ∷ es) n v w sorted among = inserted_by e es n v w (nat_cmp n e.0) refl sorted among (inserted_at es n v w (sorted_rest e es sorted))
