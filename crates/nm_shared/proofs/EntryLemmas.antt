-- What an insertion, a removal and a look-up do to pairs in order, cut at the place of their key.
-- For the proofs of `SharedMap::insert`, `SharedMap::remove` and others.
use Rattle.std.proofs.Common.{◌≡◌, ◌≢◌, refl, sym, ap, ◌∙◌, cond, true≢false, Bool, true, false, List, [], ◌∷◌, ◌++◌}
use Rattle.std.specs.Prelude.{Option, Some, None}
use Rattle.std.specs.declared.cmp.Ordering.{Ordering}
use Rattle.std.specs.declared.cmp.Ordering.TheVariants.{Less, Equal, Greater}
use Rattle.std.specs.Ordering.{ordering_reverse, is_eq}
use Rattle.std.specs.Cmp.{IsTotalOrder, Equal-is}
use Rattle.std.specs.List.{AllByRecursion}
use Rattle.std.specs.List.Sorted.{IsStrictlySortedBy}
use Rattle.std.specs.Map.{keys_of, lookup, remove_entry}
use Rattle.std.specs.BTreeMap.{insert_entry, is_at}
use Rattle.std.specs.BTreeMap.Range.{entries_from}
use Rattle.nm_shared.specs.EntryLaws.{all_insert}
use Rattle.nm_shared.specs.Spot.{AllBelow, AllAbove, BeginsAt, Follows}

-- what holds of each of two lists holds of both together, and the other way round
pub All-append : {X : Type 0} (P : X → Type 0) (xs ys : List X) → AllByRecursion P xs → AllByRecursion P ys → AllByRecursion P (xs ++ ys)
All-append P [] ys p q = q
All-append P (x ∷ xs) ys p q = (p.0, All-append P xs ys p.1 q)

pub All-append_right : {X : Type 0} (P : X → Type 0) (xs ys : List X) → AllByRecursion P (xs ++ ys) → AllByRecursion P ys
All-append_right P [] ys p = p
All-append_right P (x ∷ xs) ys p = All-append_right P xs ys p.1

module _ {K V : Type 0} (cmp : K → K → Ordering) (key : K) where
  pub insert_entry-below : (xs ys : List (K × V)) (value : V) → AllBelow cmp key xs → insert_entry cmp (xs ++ ys) key value ≡ xs ++ insert_entry cmp ys key value
  insert_entry-below [] ys value below = refl
  insert_entry-below (x ∷ xs) ys value below = rw below.0 (ap (λ rest. x ∷ rest) (insert_entry-below xs ys value below.1))

  pub insert_entry-above : (ys : List (K × V)) (value : V) → AllAbove cmp key ys → insert_entry cmp ys key value ≡ (key, value) ∷ ys
  insert_entry-above [] value above = refl
  insert_entry-above (y ∷ ys) value above = rw above.0 refl

  pub insert_entry-equal : (y : K × V) (ys : List (K × V)) (value : V) → cmp key y.0 ≡ Equal → insert_entry cmp (y ∷ ys) key value ≡ (y.0, value) ∷ ys
  insert_entry-equal y ys value equal = rw equal refl

  pub remove_entry-below : (xs ys : List (K × V)) → AllBelow cmp key xs → remove_entry (is_at (cmp key)) (xs ++ ys) ≡ xs ++ remove_entry (is_at (cmp key)) ys
  remove_entry-below [] ys below = refl
  remove_entry-below (x ∷ xs) ys below = rw below.0 (ap (λ rest. x ∷ rest) (remove_entry-below xs ys below.1))

  pub remove_entry-above : (ys : List (K × V)) → AllAbove cmp key ys → remove_entry (is_at (cmp key)) ys ≡ ys
  remove_entry-above [] above = refl
  remove_entry-above (y ∷ ys) above = rw above.0 (ap (λ rest. y ∷ rest) (remove_entry-above ys above.1))

  pub remove_entry-equal : (y : K × V) (ys : List (K × V)) → cmp key y.0 ≡ Equal → remove_entry (is_at (cmp key)) (y ∷ ys) ≡ ys
  remove_entry-equal y ys equal = rw equal refl

  pub lookup-below : (xs ys : List (K × V)) → AllBelow cmp key xs → lookup (is_at (cmp key)) (xs ++ ys) ≡ lookup (is_at (cmp key)) ys
  lookup-below [] ys below = refl
  lookup-below (x ∷ xs) ys below = rw below.0 (lookup-below xs ys below.1)

  pub lookup-above : (ys : List (K × V)) → AllAbove cmp key ys → lookup (is_at (cmp key)) ys ≡ None
  lookup-above [] above = refl
  lookup-above (y ∷ ys) above = rw above.0 (lookup-above ys above.1)

  pub lookup-equal : (y : K × V) (ys : List (K × V)) → cmp key y.0 ≡ Equal → lookup (is_at (cmp key)) (y ∷ ys) ≡ Some y.1
  lookup-equal y ys equal = rw equal refl

  pub entries_from-below : (xs ys : List (K × V)) → AllBelow cmp key xs → entries_from (cmp key) (xs ++ ys) ≡ entries_from (cmp key) ys
  entries_from-below [] ys below = refl
  entries_from-below (x ∷ xs) ys below = rw below.0 (entries_from-below xs ys below.1)

  pub entries_from-above : (ys : List (K × V)) → AllAbove cmp key ys → entries_from (cmp key) ys ≡ ys
  entries_from-above [] above = refl
  entries_from-above (y ∷ ys) above = rw above.0 (ap (λ rest. y ∷ rest) (entries_from-above ys above.1))

  pub entries_from-follows : (found : Bool) (ys : List (K × V)) → Follows cmp key found ys → entries_from (cmp key) ys ≡ ys
  entries_from-follows true [] follows = absurd follows
  entries_from-follows true (y ∷ ys) follows = rw follows.0 (ap (λ rest. y ∷ rest) (entries_from-above ys follows.1))
  entries_from-follows false ys follows = entries_from-above ys follows

-- ---- order

module _ {K : Type 0} {cmp : K → K → Ordering} (order : IsTotalOrder cmp) where
  turned : (x y : K) (answer : Ordering) → cmp x y ≡ answer → cmp y x ≡ ordering_reverse answer
  turned x y answer is = order.antisymm y x ∙ ap ordering_reverse is

  -- what is below an entry that isn't above the key is below the key
  less_through : (key x e : K) (answer : Ordering) → cmp key e ≡ answer → answer ≢ Less → cmp x e ≡ Less → cmp key x ≡ Greater
  less_through key x e Less is not less = absurd (not refl)
  less_through key x e Equal is not less = order.congr key e x is ∙ turned x e Less less
  less_through key x e Greater is not less = turned x key Less (order.trans x e key less (turned key e Greater is))

module _ {K V : Type 0} (cmp : K → K → Ordering) where
  pub sorted_right : (xs ys : List (K × V)) → IsStrictlySortedBy cmp (keys_of (xs ++ ys)) → IsStrictlySortedBy cmp (keys_of ys)
  unfolding IsStrictlySortedBy
  sorted_right [] ys sorted = sorted
  sorted_right (x ∷ xs) ys sorted = sorted_right xs ys sorted.1

module _ {K V : Type 0} where
  at_middle : (P : K → Type 0) (xs : List (K × V)) (e : K × V) (ys : List (K × V)) → AllByRecursion P (keys_of (xs ++ e ∷ ys)) → P e.0
  at_middle P [] e ys all = all.0
  at_middle P (x ∷ xs) e ys all = at_middle P xs e ys all.1

module _ {K V : Type 0} {cmp : K → K → Ordering} (order : IsTotalOrder cmp) where
  -- before an entry that isn't above the key all is below the key
  pub below_sorted : (key : K) (xs : List (K × V)) (e : K × V) (ys : List (K × V)) → IsStrictlySortedBy cmp (keys_of (xs ++ e ∷ ys)) → cmp key e.0 ≢ Less → AllBelow cmp key xs
  unfolding IsStrictlySortedBy
  below_sorted key [] e ys sorted not = tt
  below_sorted key (x ∷ xs) e ys sorted not =
      (less_through order key x.0 e.0 (cmp key e.0) refl not (at_middle (λ y. cmp x.0 y ≡ Less) xs e ys sorted.0), below_sorted key xs e ys sorted.1 not)

  above_all : (key e : K) (ys : List (K × V)) → AllByRecursion (λ y. cmp e y ≡ Less) (keys_of ys) → cmp key e ≡ Less → AllAbove cmp key ys
  above_all key e [] all less = tt
  above_all key e (y ∷ ys) all less = (order.trans key e y.0 less all.0, above_all key e ys all.1 less)

  -- an entry above the key, and all after it
  pub above_sorted : (key : K) (e : K × V) (ys : List (K × V)) → IsStrictlySortedBy cmp (keys_of (e ∷ ys)) → cmp key e.0 ≡ Less → AllAbove cmp key (e ∷ ys)
  unfolding IsStrictlySortedBy
  above_sorted key e ys sorted less = (less, above_all key e.0 ys sorted.0 less)

  equal_all : (key e : K) (ys : List (K × V)) → AllByRecursion (λ y. cmp e y ≡ Less) (keys_of ys) → cmp key e ≡ Equal → AllAbove cmp key ys
  equal_all key e [] all equal = tt
  equal_all key e (y ∷ ys) all equal = (order.congr key e y.0 equal ∙ all.0, equal_all key e ys all.1 equal)

  -- the entry of the key, and above it all after it
  pub equal_sorted : (key : K) (e : K × V) (ys : List (K × V)) → IsStrictlySortedBy cmp (keys_of (e ∷ ys)) → cmp key e.0 ≡ Equal → BeginsAt cmp key (e ∷ ys)
  unfolding IsStrictlySortedBy
  equal_sorted key e ys sorted equal = (equal, equal_all key e.0 ys sorted.0 equal)

  all_of_above : (key : K) (ys : List (K × V)) → AllAbove cmp key ys → AllByRecursion (λ y. cmp key y ≡ Less) (keys_of ys)
  all_of_above key [] above = tt
  all_of_above key (y ∷ ys) above = (above.0, all_of_above key ys above.1)

  sorted_insert_by : (e : K × V) (es : List (K × V)) (key : K) (value : V) (answer : Ordering) → cmp key e.0 ≡ answer → IsStrictlySortedBy cmp (keys_of (e ∷ es))
      → IsStrictlySortedBy cmp (keys_of (insert_entry cmp es key value)) → IsStrictlySortedBy cmp (keys_of (insert_entry cmp (e ∷ es) key value))
  unfolding IsStrictlySortedBy
  sorted_insert_by e es key value Less is sorted rest = rw is (all_of_above key (e ∷ es) (is, above_all key e.0 es sorted.0 is), sorted)
  sorted_insert_by e es key value Equal is sorted rest = rw is sorted
  sorted_insert_by e es key value Greater is sorted rest = rw is (all_insert cmp (λ y. cmp e.0 y ≡ Less) es key value sorted.0 (turned order key e.0 Greater is), rest)

  -- an insertion keeps the order
  pub sorted_insert : (es : List (K × V)) (key : K) (value : V) → IsStrictlySortedBy cmp (keys_of es) → IsStrictlySortedBy cmp (keys_of (insert_entry cmp es key value))
  unfolding IsStrictlySortedBy
  sorted_insert [] key value sorted = (tt, tt)
  sorted_insert (e ∷ es) key value sorted = sorted_insert_by e es key value (cmp key e.0) refl sorted (sorted_insert es key value sorted.1)

pub sorted_none : {K : Type 0} (V : Type 0) (cmp : K → K → Ordering) → IsStrictlySortedBy cmp (keys_of {K = K} {X = V} [])
unfolding IsStrictlySortedBy
sorted_none V cmp = tt

-- ---- what is found after a change

equal_from : (answer : Ordering) → is_eq answer ≡ true → answer ≡ Equal
equal_from answer is = (Equal-is answer).0 is

none_either : {V : Type 0} (test : Bool) → ◌≡◌ {A = Option V} None (cond test None None)
none_either true = refl
none_either false = refl

module _ {K : Type 0} {cmp : K → K → Ordering} (order : IsTotalOrder cmp) (key other : K) where
  -- keys that compare alike compare alike to others
  alike_left : (e : K) → cmp key e ≡ Equal → cmp other key ≡ cmp other e
  alike_left e is = order.antisymm other key ∙ ap ordering_reverse (order.congr key e other is) ∙ sym (order.antisymm other e)

  -- what is at an entry below the key is not the key
  apart_by : (e : K) (answer : Ordering) → cmp other e ≡ Equal → cmp key e ≡ Greater → cmp other key ≡ answer → is_eq answer ≡ false
  apart_by e Less at greater is = refl
  apart_by e Equal at greater is = absurd (cc (order.congr other key e is))
  apart_by e Greater at greater is = refl

  -- what is at an entry that is not the key, is not the key
  not_by : (e : K) → cmp other e ≡ Equal → is_eq (cmp key e) ≡ false → (answer : Bool) → is_eq (cmp other key) ≡ answer → answer ≡ false
  not_by e at not true is = absurd (true≢false (sym ((Equal-is (cmp key e)).1 (sym (order.congr other key e (equal_from (cmp other key) is)) ∙ at)) ∙ not))
  not_by e at not false is = refl

module _ {K V : Type 0} {cmp : K → K → Ordering} (order : IsTotalOrder cmp) (key other : K) where
  insert_by : (e : K × V) (es : List (K × V)) (value : V) (answer : Ordering) → cmp key e.0 ≡ answer → (at_e : Bool) → is_eq (cmp other e.0) ≡ at_e → (at_key : Bool) → is_eq (cmp other key) ≡ at_key
      → lookup (is_at (cmp other)) (insert_entry cmp es key value) ≡ cond at_key (Some value) (lookup (is_at (cmp other)) es)
      → lookup (is_at (cmp other)) (insert_entry cmp (e ∷ es) key value) ≡ cond at_key (Some value) (cond at_e (Some e.1) (lookup (is_at (cmp other)) es))
  insert_by e es value Less is at_e e_is at_key key_is more = rw (is, key_is, e_is) refl
  insert_by e es value Equal is true e_is at_key key_is more =
      let same : at_key ≡ true = sym key_is ∙ ap is_eq (alike_left order key other e.0 is) ∙ e_is in rw (is, e_is, same) refl
  insert_by e es value Equal is false e_is at_key key_is more =
      let same : at_key ≡ false = sym key_is ∙ ap is_eq (alike_left order key other e.0 is) ∙ e_is in rw (is, e_is, same) refl
  insert_by e es value Greater is true e_is at_key key_is more =
      let apart : at_key ≡ false = sym key_is ∙ apart_by order key other e.0 (cmp other key) (equal_from (cmp other e.0) e_is) is refl in rw (is, e_is, apart) refl
  insert_by e es value Greater is false e_is at_key key_is more = rw (is, e_is) more

  -- after an insertion the key has the value, and others have what they had
  pub lookup_inserted : (es : List (K × V)) (value : V) → lookup (is_at (cmp other)) (insert_entry cmp es key value) ≡ cond (is_eq (cmp other key)) (Some value) (lookup (is_at (cmp other)) es)
  lookup_inserted [] value = refl
  lookup_inserted (e ∷ es) value = insert_by e es value (cmp key e.0) refl (is_eq (cmp other e.0)) refl (is_eq (cmp other key)) refl (lookup_inserted es value)

  remove_by : (e : K × V) (es : List (K × V)) → AllByRecursion (λ y. cmp e.0 y ≡ Less) (keys_of es) → (found : Bool) → is_eq (cmp key e.0) ≡ found → (at_e : Bool) → is_eq (cmp other e.0) ≡ at_e → (at_key : Bool) → is_eq (cmp other key) ≡ at_key
      → lookup (is_at (cmp other)) (remove_entry (is_at (cmp key)) es) ≡ cond at_key None (lookup (is_at (cmp other)) es)
      → lookup (is_at (cmp other)) (cond found es (e ∷ remove_entry (is_at (cmp key)) es)) ≡ cond at_key None (cond at_e (Some e.1) (lookup (is_at (cmp other)) es))
  remove_by e es all true is true e_is at_key key_is more =
      let same : at_key ≡ true = sym key_is ∙ ap is_eq (alike_left order key other e.0 (equal_from (cmp key e.0) is)) ∙ e_is in
      lookup-above cmp other es (equal_all order other e.0 es all (equal_from (cmp other e.0) e_is)) ∙ ap (λ test. cond test None (Some e.1)) (sym same)
  remove_by e es all true is false e_is at_key key_is more =
      let same : at_key ≡ false = sym key_is ∙ ap is_eq (alike_left order key other e.0 (equal_from (cmp key e.0) is)) ∙ e_is in ap (λ test. cond test None (lookup (is_at (cmp other)) es)) (sym same)
  remove_by e es all false is true e_is at_key key_is more =
      let apart : at_key ≡ false = not_by order key other e.0 (equal_from (cmp other e.0) e_is) is at_key key_is in
      ap (λ test. cond test (Some e.1) (lookup (is_at (cmp other)) (remove_entry (is_at (cmp key)) es))) e_is ∙ ap (λ test. cond test None (Some e.1)) (sym apart)
  remove_by e es all false is false e_is at_key key_is more = ap (λ test. cond test (Some e.1) (lookup (is_at (cmp other)) (remove_entry (is_at (cmp key)) es))) e_is ∙ more

  -- after a removal the key has nothing, and others have what they had
  pub lookup_removed : (es : List (K × V)) → IsStrictlySortedBy cmp (keys_of es) → lookup (is_at (cmp other)) (remove_entry (is_at (cmp key)) es) ≡ cond (is_eq (cmp other key)) None (lookup (is_at (cmp other)) es)
  unfolding IsStrictlySortedBy
  lookup_removed [] sorted = none_either (is_eq (cmp other key))
  lookup_removed (e ∷ es) sorted = remove_by e es sorted.0 (is_eq (cmp key e.0)) refl (is_eq (cmp other e.0)) refl (is_eq (cmp other key)) refl (lookup_removed es sorted.1)
