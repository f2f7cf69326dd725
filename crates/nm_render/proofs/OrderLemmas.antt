-- Items in the order of a rank: a stable sort by the rank gives the one list that there is. For the proof of `ordered`.
use Rattle.std.proofs.Common.{◌≡◌, ℕ, suc, ℤ, ◌+◌, ◌<◌, Bool, true, false, not, ◌&&◌, cond, List, [], ◌∷◌, filter, length, get_or, refl, sym, ap, ap₂, subst, ◌∙◌, arith, true≢false}
use Rattle.std.specs.Prelude.{int_lt}
use Rattle.std.specs.Cmp.{int_cmp_total}
use Rattle.std.specs.List.{AllByRecursion}
use Rattle.std.specs.List.Sorted.{IsSortedByKey, IsStableByKey, ties}
use Rattle.std.specs.Ordering.{int_cmp, is_lt}
use Rattle.std.specs.declared.cmp.Ordering.TheVariants.{Equal, Greater, Less}
use Rattle.std.proofs.lemmas.List.Sorted.{ranks_by, sorted_far}
use Rattle.nm_model_answer.specs.Listing.{by_rank}
use Rattle.nm_model_answer.specs.Orders.{IsByRank, Rises, is_ranked}

-- of three numbers
below_all : (low first later : ℤ) → int_lt low first ≡ true → int_lt later first ≡ false → int_lt low later ≡ true
below_all low first later less least = search (arith, less, least)

same_number : (a b : ℤ) → int_lt a b ≡ false → int_lt b a ≡ false → a ≡ b
same_number a b least most = search (arith, least, most)

itself : (a : ℤ) → int_lt a a ≡ false
itself a = search arith

other_rank : (a b : Bool) → b ≡ true → (not a && not b) ≡ false
other_rank true b is = refl
other_rank false true is = refl
other_rank false false is = absurd (true≢false (sym is))

is_test : (less more : Bool) → is_lt (cond less Less (cond more Greater Equal)) ≡ less
is_test true more = refl
is_test false true = refl
is_test false false = refl

not_both : (a b : Bool) → (not a && not b) ≡ (not b && not a)
not_both true true = refl
not_both true false = refl
not_both false true = refl
not_both false false = refl

module _ {X : Type 0} where
  abbrev first_of : X → List X → X
  first_of d [] = d
  first_of d (x ∷ xs) = x

  abbrev rest_of : List X → List X
  rest_of [] = []
  rest_of (x ∷ xs) = xs

  same_first : (x y : X) (xs ys : List X) → x ∷ xs ≡ y ∷ ys → x ≡ y
  same_first x y xs ys is = ap (first_of x) is

  same_rest : (x y : X) (xs ys : List X) → x ∷ xs ≡ y ∷ ys → xs ≡ ys
  same_rest x y xs ys is = ap rest_of is

  not_empty : (x : X) (xs : List X) (P : Type 0) → x ∷ xs ≡ [] → P
  not_empty x xs P is = absurd (true≢false (ap has_first is)) where
    has_first : List X → Bool
    has_first [] = false
    has_first (y ∷ ys) = true

  filter_same : (p q : X → Bool) (xs : List X) → ((x : X) → p x ≡ q x) → filter p xs ≡ filter q xs
  filter_same p q [] same = refl
  filter_same p q (x ∷ xs) same = ap₂ (λ keeps rest. cond keeps (x ∷ rest) rest) (same x) (filter_same p q xs same)

module _ {X : Type 0} (rank : X → ℤ) where
  abbrev of_rank : X → X → Bool
  of_rank x item = is_ranked rank (rank x) item

  kept : (x item : X) (items : List X) → of_rank x item ≡ true → filter (of_rank x) (item ∷ items) ≡ item ∷ filter (of_rank x) items
  kept x item items is = ap (λ b. cond b (item ∷ filter (of_rank x) items) (filter (of_rank x) items)) is

  left : (x item : X) (items : List X) → of_rank x item ≡ false → filter (of_rank x) (item ∷ items) ≡ filter (of_rank x) items
  left x item items is = ap (λ b. cond b (item ∷ filter (of_rank x) items) (filter (of_rank x) items)) is

  of_itself : (x : X) → of_rank x x ≡ true
  of_itself x = ap (λ b. not b && not b) (itself (rank x))

  -- what is below the first of a rising list has the rank of none of it
  none_below : (x first : X) (items : List X) → int_lt (rank x) (rank first) ≡ true → AllByRecursion (λ later. int_lt (rank later) (rank first) ≡ false) items → filter (of_rank x) items ≡ []
  none_below x first [] less all = refl
  none_below x first (next ∷ items) less all =
      left x next items (other_rank (int_lt (rank next) (rank x)) (int_lt (rank x) (rank next)) (below_all (rank x) (rank first) (rank next) less all.0)) ∙ none_below x first items less all.1

  none_of : (x first : X) (items : List X) → int_lt (rank x) (rank first) ≡ true → Rises rank (first ∷ items) → filter (of_rank x) (first ∷ items) ≡ []
  none_of x first items less rises =
      left x first items (other_rank (int_lt (rank first) (rank x)) (int_lt (rank x) (rank first)) less) ∙ none_below x first items less rises.0

  tails_by : (x s t : X) (ss ts : List X) (test : Bool) → of_rank x s ≡ test → s ≡ t → filter (of_rank x) (s ∷ ss) ≡ filter (of_rank x) (t ∷ ts) → filter (of_rank x) ss ≡ filter (of_rank x) ts
  tails_by x s t ss ts true is one same =
      same_rest s t (filter (of_rank x) ss) (filter (of_rank x) ts) (sym (kept x s ss is) ∙ same ∙ kept x t ts (ap (of_rank x) (sym one) ∙ is))
  tails_by x s t ss ts false is one same = sym (left x s ss is) ∙ same ∙ left x t ts (ap (of_rank x) (sym one) ∙ is)

  module _ (s t : X) (ss ts : List X) (rising : Rises rank (s ∷ ss)) (other : Rises rank (t ∷ ts)) (same : (x : X) → filter (of_rank x) (s ∷ ss) ≡ filter (of_rank x) (t ∷ ts)) where
    one_by : (less more : Bool) → int_lt (rank s) (rank t) ≡ less → int_lt (rank t) (rank s) ≡ more → (((x : X) → filter (of_rank x) ss ≡ filter (of_rank x) ts) → ss ≡ ts) → s ∷ ss ≡ t ∷ ts
    one_by true more is is_more rest =
        not_empty s (filter (of_rank s) ss) (s ∷ ss ≡ t ∷ ts) (sym (kept s s ss (of_itself s)) ∙ same s ∙ none_of s t ts is other)
    one_by false true is is_more rest =
        not_empty t (filter (of_rank t) ts) (s ∷ ss ≡ t ∷ ts) (sym (kept t t ts (of_itself t)) ∙ sym (same t) ∙ none_of t s ss is_more rising)
    one_by false false is is_more rest =
        let ranked : of_rank s t ≡ true = ap (λ r. not (int_lt (rank t) r) && not (int_lt r (rank t))) (same_number (rank s) (rank t) is is_more) ∙ of_itself t in
        let one : s ≡ t = same_first s t (filter (of_rank s) ss) (filter (of_rank s) ts) (sym (kept s s ss (of_itself s)) ∙ same s ∙ kept s t ts ranked) in
        ap₂ (λ first items. first ∷ items) one (rest (λ x. tails_by x s t ss ts (of_rank x s) refl one (same x)))

  -- two rising lists with the same items of each rank, in the same order, are one
  one_list : (ss ts : List X) → Rises rank ss → Rises rank ts → ((x : X) → filter (of_rank x) ss ≡ filter (of_rank x) ts) → ss ≡ ts
  one_list [] [] rising other same = refl
  one_list [] (t ∷ ts) rising other same = not_empty t (filter (of_rank t) ts) ([] ≡ t ∷ ts) (sym (kept t t ts (of_itself t)) ∙ sym (same t))
  one_list (s ∷ ss) [] rising other same = not_empty s (filter (of_rank s) ss) (s ∷ ss ≡ []) (sym (kept s s ss (of_itself s)) ∙ same s)
  one_list (s ∷ ss) (t ∷ ts) rising other same =
      one_by s t ss ts rising other same (int_lt (rank s) (rank t)) (int_lt (rank t) (rank s)) refl refl (one_list ss ts rising.1 other.1)

  -- ---- what a sort ensures
  by_test : (x y : X) → is_lt (int_cmp (rank x) (rank y)) ≡ int_lt (rank x) (rank y)
  by_test x y = is_test (int_lt (rank x) (rank y)) (int_lt (rank y) (rank x))

  none_less : (first : X) (items : List X) → ((k : ℕ) (d : X) → k < length items → is_lt (int_cmp (rank (get_or items k d)) (rank first)) ≡ false)
      → AllByRecursion (λ later. int_lt (rank later) (rank first) ≡ false) items
  none_less first [] far = tt
  none_less first (next ∷ items) far = (sym (by_test next first) ∙ far 0 next (omega arith), none_less first items (λ k d h. far (suc k) d (omega (arith, h))))

  rising_from : (items : List X) → IsSortedByKey rank int_cmp items → Rises rank items
  rising_from [] up = tt
  rising_from (first ∷ items) up = (
    none_less first items (λ k d h. sorted_far (λ x y. is_lt (int_cmp (rank x) (rank y))) (ranks_by int_cmp_total rank) (first ∷ items) up 0 (suc k) d (omega arith) (omega (arith, h))),
    rising_from items (λ k d low high.
        let next : suc k + 1 ≡ suc (k + 1) = omega arith in
        subst (λ n. is_lt (int_cmp (rank (get_or (first ∷ items) n d)) (rank (get_or items k d))) ≡ false) next (up (suc k) d (omega arith) (omega (arith, high)))),
  )

  tied_is : (x item : X) → ties (λ a b. is_lt (int_cmp (rank a) (rank b))) x item ≡ of_rank x item
  tied_is x item = ap₂ (λ a b. not a && not b) (by_test x item) (by_test item x) ∙ not_both (int_lt (rank x) (rank item)) (int_lt (rank item) (rank x))

  -- a stable sort by the rank
  pub sorted_by_rank : (items sorted : List X) → IsSortedByKey rank int_cmp sorted → IsStableByKey rank int_cmp items sorted → IsByRank rank items (by_rank rank items)
      → sorted ≡ by_rank rank items
  sorted_by_rank items sorted up stable law =
      one_list sorted (by_rank rank items) (rising_from sorted up) law.rising
      (λ x. sym (filter_same (ties (λ a b. is_lt (int_cmp (rank a) (rank b))) x) (of_rank x) sorted (tied_is x)) ∙ stable x
      ∙ filter_same (ties (λ a b. is_lt (int_cmp (rank a) (rank b))) x) (of_rank x) items (tied_is x) ∙ sym (law.same (rank x)))
