-- Tags that rise are the set that is made of them, one after the other. For the proof of `tags_of`.
use Rattle.std.proofs.Common.{◌≡◌, ℕ, ◌+◌, ◌<◌, true, List, [], ◌∷◌, ◌++◌, length, get_or, take, drop, Some, None, refl, sym, ap, subst, ◌∙◌, append_assoc}
use Rattle.std.specs.List.{AllByRecursion}
use Rattle.std.specs.List.Sorted.{IsStrictlySortedBy}
use Rattle.std.specs.Cmp.Lexicographic.{nat_list_cmp_total, slice_cmp}
use Rattle.std.specs.Ordering.{is_lt, nat_cmp, ordering_reverse}
use Rattle.std.specs.declared.cmp.Ordering.{Ordering}
use Rattle.std.specs.declared.cmp.Ordering.TheVariants.{Less, Equal, Greater}
use Rattle.std.proofs.lemmas.Bool.{and_parts}
use Rattle.std.proofs.lemmas.List.{take_more, take-append-drop}
use Rattle.nm_base.specs.Order.{IsSorted}
use Rattle.nm_base.specs.Tags.{with_tag}
use Rattle.nm_codec.specs.ReadSteps.{is_below, is_rising}

is_less : (o : Ordering) → is_lt o ≡ true → o ≡ Less
is_less Less e = refl
is_less Equal e = absurd cc
is_less Greater e = absurd cc

-- who is below the first is below all
below_first : (key x : List ℕ) (xs : List (List ℕ)) → slice_cmp nat_cmp key x ≡ Less → AllByRecursion (λ y. slice_cmp nat_cmp x y ≡ Less) xs → AllByRecursion (λ y. slice_cmp nat_cmp key y ≡ Less) xs
below_first key x [] e h = tt
below_first key x (y ∷ ys) e h = (nat_list_cmp_total.trans key x y e h.0, below_first key x ys e h.1)

all_above : (x : List ℕ) (xs : List (List ℕ)) → is_rising (is_below (slice_cmp nat_cmp)) (Some x) xs ≡ true → AllByRecursion (λ y. slice_cmp nat_cmp x y ≡ Less) xs
all_above x [] r = tt
all_above x (y ∷ ys) r =
    let rs = and_parts (is_below (slice_cmp nat_cmp) x y) (is_rising (is_below (slice_cmp nat_cmp)) (Some y) ys) r in
    let first = is_less (slice_cmp nat_cmp x y) rs.0 in
    (first, below_first x y ys first (all_above y ys rs.1))

sorted_above : (x : List ℕ) (xs : List (List ℕ)) → is_rising (is_below (slice_cmp nat_cmp)) (Some x) xs ≡ true → IsSorted (x ∷ xs)
unfolding IsStrictlySortedBy
sorted_above x [] r = (tt, tt)
sorted_above x (y ∷ ys) r =
    let rs = and_parts (is_below (slice_cmp nat_cmp) x y) (is_rising (is_below (slice_cmp nat_cmp)) (Some y) ys) r in
    (all_above x (y ∷ ys) r, sorted_above y ys rs.1)

rising_sorted : (xs : List (List ℕ)) → is_rising (is_below (slice_cmp nat_cmp)) None xs ≡ true → IsSorted xs
unfolding IsStrictlySortedBy
rising_sorted [] r = tt
rising_sorted (x ∷ xs) r = sorted_above x xs r

at_middle : (P : List ℕ → Type 0) (ys : List (List ℕ)) (x : List ℕ) (rest : List (List ℕ)) → AllByRecursion P (ys ++ x ∷ rest) → P x
at_middle P [] x rest h = h.0
at_middle P (y ∷ ys) x rest h = at_middle P ys x rest h.1

-- a tag above all goes to the end
last_set : (front : List (List ℕ)) (x : List ℕ) (rest : List (List ℕ)) → IsSorted (front ++ x ∷ rest) → with_tag front x ≡ front ++ x ∷ []
unfolding IsStrictlySortedBy
last_set [] x rest s = refl
last_set (y ∷ ys) x rest s =
    let above : slice_cmp nat_cmp x y ≡ Greater = nat_list_cmp_total.antisymm x y ∙ ap ordering_reverse (at_middle (λ z. slice_cmp nat_cmp y z ≡ Less) ys x rest s.0) in
    rw above (ap (λ (ts : List (List ℕ)). y ∷ ts) (last_set ys x rest s.1))

pub set_more : (xs : List (List ℕ)) (i : ℕ) (d : List ℕ) → is_rising (is_below (slice_cmp nat_cmp)) None xs ≡ true → i < length xs → with_tag (take i xs) (get_or xs i d) ≡ take (i + 1) xs
set_more xs i d r h =
    let x = get_or xs i d in
    let whole : take i xs ++ x ∷ drop (i + 1) xs ≡ xs = sym (append_assoc (take i xs) (x ∷ []) (drop (i + 1) xs)) ∙ ap (λ (ts : List (List ℕ)). ts ++ drop (i + 1) xs) (sym (take_more xs i d h)) ∙ take-append-drop (i + 1) xs in
    last_set (take i xs) x (drop (i + 1) xs) (subst IsSorted (sym whole) (rising_sorted xs r)) ∙ sym (take_more xs i d h)
