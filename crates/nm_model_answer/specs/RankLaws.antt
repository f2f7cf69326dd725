-- What an order by rank keeps. For proofs alone: of the laws of a search, and of `ordered` in `nm_render`.
use Rattle.std.proofs.Common.{◌≡◌, ℤ, Bool, true, false, not, ◌&&◌, cond, List, [], ◌∷◌, ◌++◌, filter, fold, refl, sym, ap, ◌∙◌, arith, true≢false, append_assoc, append-nil}
use Rattle.std.specs.Prelude.{int_lt}
use Rattle.std.specs.List.{AllByRecursion}
use Rattle.nm_model_answer.specs.Listing.{at_rank, by_rank}
use Rattle.nm_model_answer.specs.Orders.{IsByRank, Rises, is_ranked}

-- of three numbers
not_below : (x f y : ℤ) → int_lt x f ≡ true → int_lt y f ≡ false → int_lt y x ≡ false
not_below x f y less least = search (arith, less, least)

not_less : (x f : ℤ) → int_lt x f ≡ true → int_lt f x ≡ false
not_less x f less = search (arith, less)

module _ {X : Type 0} (rank : X → ℤ) where
  -- what is not below the first of greater rank is not below the item
  all_above : (item first : X) (items : List X) → int_lt (rank item) (rank first) ≡ true → AllByRecursion (λ later. int_lt (rank later) (rank first) ≡ false) items
      → AllByRecursion (λ later. int_lt (rank later) (rank item) ≡ false) items
  all_above item first [] less all = tt
  all_above item first (next ∷ items) less all = (not_below (rank item) (rank first) (rank next) less all.0, all_above item first items less all.1)

  -- an item put in is above where those are and it is
  put_above_by : (low first item : X) (items : List X) (test : Bool) → int_lt (rank item) (rank first) ≡ test → int_lt (rank item) (rank low) ≡ false
      → AllByRecursion (λ later. int_lt (rank later) (rank low) ≡ false) (first ∷ items) → AllByRecursion (λ later. int_lt (rank later) (rank low) ≡ false) (at_rank rank items item)
      → AllByRecursion (λ later. int_lt (rank later) (rank low) ≡ false) (cond test (item ∷ first ∷ items) (first ∷ at_rank rank items item))
  put_above_by low first item items true is here all rest = (here, all)
  put_above_by low first item items false is here all rest = (all.0, rest)

  put_above : (low item : X) (items : List X) → int_lt (rank item) (rank low) ≡ false → AllByRecursion (λ later. int_lt (rank later) (rank low) ≡ false) items
      → AllByRecursion (λ later. int_lt (rank later) (rank low) ≡ false) (at_rank rank items item)
  put_above low item [] here all = (here, tt)
  put_above low item (first ∷ items) here all = put_above_by low first item items (int_lt (rank item) (rank first)) refl here all (put_above low item items here all.1)

  rises_by : (first item : X) (items : List X) (test : Bool) → int_lt (rank item) (rank first) ≡ test → Rises rank (first ∷ items) → Rises rank (at_rank rank items item)
      → Rises rank (cond test (item ∷ first ∷ items) (first ∷ at_rank rank items item))
  rises_by first item items true is rises rest = ((not_less (rank item) (rank first) is, all_above item first items is rises.0), rises)
  rises_by first item items false is rises rest = (put_above first item items is rises.0, rest)

  rises_more : (item : X) (items : List X) → Rises rank items → Rises rank (at_rank rank items item)
  rises_more item [] rises = (tt, tt)
  rises_more item (first ∷ items) rises = rises_by first item items (int_lt (rank item) (rank first)) refl rises (rises_more item items rises.1)

  rises_all : (sorted items : List X) → Rises rank sorted → Rises rank (fold (at_rank rank) sorted items)
  rises_all sorted [] rises = rises
  rises_all sorted (item ∷ items) rises = rises_all (at_rank rank sorted item) items (rises_more item sorted rises)

-- ---- of one rank

both_false : (a b : Bool) → (not a && not b) ≡ true → (a ≡ false) × (b ≡ false)
both_false true b is = absurd (true≢false (sym is))
both_false false true is = absurd (true≢false (sym is))
both_false false false is = (refl, refl)

above : (x r f : ℤ) → int_lt r x ≡ false → int_lt x r ≡ false → int_lt x f ≡ true → int_lt r f ≡ true
above x r f low high less = search (arith, low, high, less)

far : (r f y : ℤ) → int_lt r f ≡ true → int_lt y f ≡ false → int_lt r y ≡ true
far r f y less least = search (arith, less, least)

not_ranked : (a b : Bool) → b ≡ true → (not a && not b) ≡ false
not_ranked true b is = refl
not_ranked false true is = refl
not_ranked false false is = absurd (true≢false (sym is))

module _ {X : Type 0} (rank : X → ℤ) (r : ℤ) where
  abbrev is_r : X → Bool
  is_r item = is_ranked rank r item

  skip : (item : X) (items : List X) → is_r item ≡ false → filter is_r (item ∷ items) ≡ filter is_r items
  skip item items is = ap (λ b. cond b (item ∷ filter is_r items) (filter is_r items)) is

  take_in : (item : X) (items : List X) → is_r item ≡ true → filter is_r (item ∷ items) ≡ item ∷ filter is_r items
  take_in item items is = ap (λ b. cond b (item ∷ filter is_r items) (filter is_r items)) is

  -- above the rank there is none of it
  none : (first : X) (items : List X) → int_lt r (rank first) ≡ true → AllByRecursion (λ later. int_lt (rank later) (rank first) ≡ false) items → filter is_r items ≡ []
  none first [] less all = refl
  none first (next ∷ items) less all =
      skip next items (not_ranked (int_lt (rank next) r) (int_lt r (rank next)) (far r (rank first) (rank next) less all.0)) ∙ none first items less all.1

  front_by : (item first : X) (items : List X) (test : Bool) → is_r item ≡ test → int_lt (rank item) (rank first) ≡ true → Rises rank (first ∷ items)
      → filter is_r (item ∷ first ∷ items) ≡ filter is_r (first ∷ items) ++ filter is_r (item ∷ [])
  front_by item first items true is less rises =
      let parts = both_false (int_lt (rank item) r) (int_lt r (rank item)) is in
      let least = above (rank item) r (rank first) parts.1 parts.0 less in
      let empty = skip first items (not_ranked (int_lt (rank first) r) (int_lt r (rank first)) least) ∙ none first items least rises.0 in
      take_in item (first ∷ items) is ∙ ap (λ rest. item ∷ rest) empty ∙ sym (ap (λ front. front ++ filter is_r (item ∷ [])) empty ∙ take_in item [] is)
  front_by item first items false is less rises =
      skip item (first ∷ items) is ∙ sym (append-nil (filter is_r (first ∷ items))) ∙ sym (ap (λ rest. filter is_r (first ∷ items) ++ rest) (skip item [] is))

  after_by : (item first : X) (items : List X) (test : Bool) → is_r first ≡ test → filter is_r (at_rank rank items item) ≡ filter is_r items ++ filter is_r (item ∷ [])
      → filter is_r (first ∷ at_rank rank items item) ≡ filter is_r (first ∷ items) ++ filter is_r (item ∷ [])
  after_by item first items true is rest =
      take_in first (at_rank rank items item) is ∙ ap (λ more. first ∷ more) rest ∙ sym (ap (λ front. front ++ filter is_r (item ∷ [])) (take_in first items is))
  after_by item first items false is rest =
      skip first (at_rank rank items item) is ∙ rest ∙ sym (ap (λ front. front ++ filter is_r (item ∷ [])) (skip first items is))

  same_by : (item first : X) (items : List X) (test : Bool) → int_lt (rank item) (rank first) ≡ test → Rises rank (first ∷ items)
      → filter is_r (at_rank rank items item) ≡ filter is_r items ++ filter is_r (item ∷ [])
      → filter is_r (cond test (item ∷ first ∷ items) (first ∷ at_rank rank items item)) ≡ filter is_r (first ∷ items) ++ filter is_r (item ∷ [])
  same_by item first items true is rises rest = front_by item first items (is_r item) refl is rises
  same_by item first items false is rises rest = after_by item first items (is_r first) refl rest

  same_more : (item : X) (items : List X) → Rises rank items → filter is_r (at_rank rank items item) ≡ filter is_r items ++ filter is_r (item ∷ [])
  same_more item [] rises = refl
  same_more item (first ∷ items) rises = same_by item first items (int_lt (rank item) (rank first)) refl rises (same_more item items rises.1)

  one_by : (item : X) (items : List X) (test : Bool) → is_r item ≡ test → filter is_r (item ∷ []) ++ filter is_r items ≡ filter is_r (item ∷ items)
  one_by item items true is = ap (λ front. front ++ filter is_r items) (take_in item [] is) ∙ sym (take_in item items is)
  one_by item items false is = ap (λ front. front ++ filter is_r items) (skip item [] is) ∙ sym (skip item items is)

  same_all : (sorted items : List X) → Rises rank sorted → filter is_r (fold (at_rank rank) sorted items) ≡ filter is_r sorted ++ filter is_r items
  same_all sorted [] rises = sym (append-nil (filter is_r sorted))
  same_all sorted (item ∷ items) rises =
      same_all (at_rank rank sorted item) items (rises_more rank item sorted rises)
      ∙ (ap (λ front. front ++ filter is_r items) (same_more item sorted rises)
      ∙ (append_assoc (filter is_r sorted) (filter is_r (item ∷ [])) (filter is_r items) ∙ ap (λ rest. filter is_r sorted ++ rest) (one_by item items (is_r item) refl)))

pub by_rank_is : {X : Type 0} (rank : X → ℤ) (items : List X) → IsByRank rank items (by_rank rank items)
by_rank_is rank items = record { rising = rises_all rank [] items tt; same = λ r. same_all rank r [] items tt }
