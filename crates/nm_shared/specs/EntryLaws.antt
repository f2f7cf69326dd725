-- What an insertion and a removal leave of all keys of pairs, and of their order. For proofs alone: those of `nm_tables` too.
use Rattle.std.proofs.Common.{◌≡◌, refl, Bool, true, false, List, [], ◌∷◌}
use Rattle.std.specs.declared.cmp.Ordering.{Ordering}
use Rattle.std.specs.declared.cmp.Ordering.TheVariants.{Less, Equal, Greater}
use Rattle.std.specs.List.{AllByRecursion}
use Rattle.std.specs.List.Sorted.{IsStrictlySortedBy}
use Rattle.std.specs.Map.{keys_of, remove_entry}
use Rattle.std.specs.BTreeMap.{insert_entry}

module _ {K V : Type 0} (cmp : K → K → Ordering) where
  all_insert_by : (P : K → Type 0) (e : K × V) (es : List (K × V)) (key : K) (value : V) (answer : Ordering) → cmp key e.0 ≡ answer → P e.0 → AllByRecursion P (keys_of es) → P key
      → AllByRecursion P (keys_of (insert_entry cmp es key value)) → AllByRecursion P (keys_of (insert_entry cmp (e ∷ es) key value))
  all_insert_by P e es key value Less is first all here rest = rw is (here, (first, all))
  all_insert_by P e es key value Equal is first all here rest = rw is (first, all)
  all_insert_by P e es key value Greater is first all here rest = rw is (first, rest)

  -- what holds of all keys and of one more holds of all after its insertion
  pub all_insert : (P : K → Type 0) (es : List (K × V)) (key : K) (value : V) → AllByRecursion P (keys_of es) → P key → AllByRecursion P (keys_of (insert_entry cmp es key value))
  all_insert P [] key value all here = (here, tt)
  all_insert P (e ∷ es) key value all here = all_insert_by P e es key value (cmp key e.0) refl all.0 all.1 here (all_insert P es key value all.1 here)

module _ {K V : Type 0} where
  all_remove_by : (P : K → Type 0) (test : K → Bool) (e : K × V) (es : List (K × V)) (answer : Bool) → test e.0 ≡ answer → P e.0 → AllByRecursion P (keys_of es)
      → AllByRecursion P (keys_of (remove_entry test es)) → AllByRecursion P (keys_of (remove_entry test (e ∷ es)))
  all_remove_by P test e es true is first all rest = rw is all
  all_remove_by P test e es false is first all rest = rw is (first, rest)

  -- what holds of all keys holds of those that a removal leaves
  pub all_remove : (P : K → Type 0) (test : K → Bool) (es : List (K × V)) → AllByRecursion P (keys_of es) → AllByRecursion P (keys_of (remove_entry test es))
  all_remove P test [] all = tt
  all_remove P test (e ∷ es) all = all_remove_by P test e es (test e.0) refl all.0 all.1 (all_remove P test es all.1)

  sorted_remove_by : (cmp : K → K → Ordering) (test : K → Bool) (e : K × V) (es : List (K × V)) (answer : Bool) → test e.0 ≡ answer → IsStrictlySortedBy cmp (keys_of (e ∷ es))
      → IsStrictlySortedBy cmp (keys_of (remove_entry test es)) → IsStrictlySortedBy cmp (keys_of (remove_entry test (e ∷ es)))
  unfolding IsStrictlySortedBy
  sorted_remove_by cmp test e es true is sorted rest = rw is sorted.1
  sorted_remove_by cmp test e es false is sorted rest = rw is (all_remove (λ y. cmp e.0 y ≡ Less) test es sorted.0, rest)

  -- a removal keeps the order
  pub sorted_remove : (cmp : K → K → Ordering) (test : K → Bool) (es : List (K × V)) → IsStrictlySortedBy cmp (keys_of es) → IsStrictlySortedBy cmp (keys_of (remove_entry test es))
  unfolding IsStrictlySortedBy
  sorted_remove cmp test [] sorted = tt
  sorted_remove cmp test (e ∷ es) sorted = sorted_remove_by cmp test e es (test e.0) refl sorted (sorted_remove cmp test es sorted.1)
