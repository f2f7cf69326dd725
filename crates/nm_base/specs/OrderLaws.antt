-- Texts that are put in order: none occurs twice. For proofs alone: those of `nm_model_plan`, `nm_writer` and `nm_dump`.
use Rattle.std.proofs.Common.{◌≡◌, ℕ, false, List, [], ◌∷◌, fold, refl, ap, ◌∙◌}
use Rattle.std.proofs.lemmas.Map.Keys.{IsDistinct-from_sorted}
use Rattle.std.specs.Cmp.Lexicographic.{nat_list_cmp_total, slice_cmp, texts_ties}
use Rattle.std.specs.List.{AllByRecursion, IsDistinct}
use Rattle.std.specs.List.Sorted.{IsStrictlySortedBy}
use Rattle.std.specs.Ordering.{is_eq, nat_cmp, ordering_reverse}
use Rattle.std.specs.declared.cmp.Ordering.{Ordering}
use Rattle.std.specs.declared.cmp.Ordering.TheVariants.{Less, Equal, Greater}
use Rattle.nm_base.specs.Order.{IsSorted, insert, same_text, sorted}

-- two texts compared the other way round
pub turned : (x y : List ℕ) (answer : Ordering) → slice_cmp nat_cmp x y ≡ answer → slice_cmp nat_cmp y x ≡ ordering_reverse answer
turned x y answer is = nat_list_cmp_total.antisymm y x ∙ ap ordering_reverse is

-- what is above a text is above all that is below it
pub above_all : (key e : List ℕ) (ys : List (List ℕ)) → AllByRecursion (λ y. slice_cmp nat_cmp e y ≡ Less) ys → slice_cmp nat_cmp key e ≡ Less → AllByRecursion (λ y. slice_cmp nat_cmp key y ≡ Less) ys
above_all key e [] all less = tt
above_all key e (y ∷ ys) all less = (nat_list_cmp_total.trans key e y less all.0, above_all key e ys all.1 less)

-- what holds of all texts and of one more holds when it is put among them
put_by : (P : List ℕ → Type 0) (x : List ℕ) (xs : List (List ℕ)) (key : List ℕ) (answer : Ordering) → slice_cmp nat_cmp key x ≡ answer → AllByRecursion P (x ∷ xs) → P key
    → AllByRecursion P (insert xs key) → AllByRecursion P (insert (x ∷ xs) key)
put_by P x xs key Less is all here rest = rw is (here, all)
put_by P x xs key Equal is all here rest = rw is all
put_by P x xs key Greater is all here rest = rw is (all.0, rest)

all_put : (P : List ℕ → Type 0) (xs : List (List ℕ)) (key : List ℕ) → AllByRecursion P xs → P key → AllByRecursion P (insert xs key)
all_put P [] key all here = (here, tt)
all_put P (x ∷ xs) key all here = put_by P x xs key (slice_cmp nat_cmp key x) refl all here (all_put P xs key all.1 here)

sorted_by : (x : List ℕ) (xs : List (List ℕ)) (key : List ℕ) (answer : Ordering) → slice_cmp nat_cmp key x ≡ answer → IsSorted (x ∷ xs) → IsSorted (insert xs key) → IsSorted (insert (x ∷ xs) key)
unfolding IsStrictlySortedBy
sorted_by x xs key Less is in_order rest = rw is ((is, above_all key x xs in_order.0 is), in_order)
sorted_by x xs key Equal is in_order rest = rw is in_order
sorted_by x xs key Greater is in_order rest =
    rw is (all_put (λ y. slice_cmp nat_cmp x y ≡ Less) xs key in_order.0 (turned key x Greater is), rest)

sorted_put : (xs : List (List ℕ)) (key : List ℕ) → IsSorted xs → IsSorted (insert xs key)
unfolding IsStrictlySortedBy
sorted_put [] key in_order = (tt, tt)
sorted_put (x ∷ xs) key in_order = sorted_by x xs key (slice_cmp nat_cmp key x) refl in_order (sorted_put xs key in_order.1)

sorted_fold : (texts keys : List (List ℕ)) → IsSorted keys → IsSorted (fold insert keys texts)
sorted_fold [] keys in_order = in_order
sorted_fold (text ∷ texts) keys in_order = sorted_fold texts (insert keys text) (sorted_put keys text in_order)

pub none_sorted : IsSorted []
unfolding IsStrictlySortedBy
none_sorted = tt

pub IsSorted-sorted : (texts : List (List ℕ)) → IsSorted (sorted texts)
IsSorted-sorted texts = sorted_fold texts [] none_sorted

apart_all : (x : List ℕ) (xs : List (List ℕ)) → AllByRecursion (λ y. is_eq (slice_cmp nat_cmp x y) ≡ false) xs → AllByRecursion (λ y. same_text x y ≡ false) xs
apart_all x [] h = tt
apart_all x (y ∷ ys) h = (texts_ties x y ∙ h.0, apart_all x ys h.1)

distinct_by : (texts : List (List ℕ)) → IsDistinct (λ x y. is_eq (slice_cmp nat_cmp x y)) texts → IsDistinct same_text texts
unfolding IsDistinct
distinct_by [] h = tt
distinct_by (x ∷ xs) h = (apart_all x xs h.0, distinct_by xs h.1)

-- texts in order are distinct
pub distinct_sorted : (texts : List (List ℕ)) → IsSorted texts → IsDistinct same_text texts
distinct_sorted texts in_order = distinct_by texts (IsDistinct-from_sorted (slice_cmp nat_cmp) texts in_order)
