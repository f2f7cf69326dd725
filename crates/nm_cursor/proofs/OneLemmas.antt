-- What a document leaves of the symmetric difference, be it in one list or in both. Cited by the proofs of `one`.
use Rattle.std.proofs.Common.{◌≡◌, refl, sym, ap, subst, ◌∙◌, ℕ, ◌<◌, ◌≤◌, Bool, true, false, eqb, ltb, leb, List, [], ◌∷◌, length, Option, Some, None, arith}
use mathlib.Core.Bool.{beq}
use Rattle.std.specs.Prelude.{not, ◌&&◌, ◌||◌, slice_get}
use Rattle.std.proofs.lemmas.Bool.{false≢true}
use Rattle.std.proofs.lemmas.Bool.Decides.{nat_tests}
use Rattle.nm_cursor.specs.Sets.{IsRising, Takes, has, from, above, difference, union, symmetric_difference}
use Rattle.nm_cursor.specs.Ahead.{lower}
use Rattle.nm_cursor.proofs.SetLemmas.{has-cons, has-from, has-above, has-symmetric_difference, rising_cons, rising-from, rising-above, rising-symmetric_difference, same_list}
use Rattle.nm_cursor.proofs.EitherLemmas.{First, lower_first, lower_none, union_first}
use Rattle.nm_cursor.proofs.FromLemmas.{from_zero}

symmetric_from_at : (l r f : Bool) → (((l && not r) || (r && not l)) && f) ≡ (((l && f) && not (r && f)) || ((r && f) && not (l && f)))
symmetric_from_at l r f = grind arith

from_symmetric : (doc : ℕ) (left right : List ℕ) → IsRising left → IsRising right → from doc (symmetric_difference left right) ≡ symmetric_difference (from doc left) (from doc right)
from_symmetric doc left right r s = same_list (from doc (symmetric_difference left right)) (symmetric_difference (from doc left) (from doc right))
    (rising-from doc (symmetric_difference left right) (rising-symmetric_difference left right r)) (rising-symmetric_difference (from doc left) (from doc right) (rising-from doc left r))
    (λ n. has-from doc (symmetric_difference left right) n ∙ ap (λ b. b && leb doc n) (has-symmetric_difference left right n) ∙ symmetric_from_at (has left n) (has right n) (leb doc n)
    ∙ sym (has-symmetric_difference (from doc left) (from doc right) n ∙ rw (has-from doc left n, has-from doc right n) refl))

at_rest_one : (doc : ℕ) (left right : List ℕ) (n : ℕ) → has (symmetric_difference (above doc left) (above doc right)) n
    ≡ (((has left n && ltb doc n) && not (has right n && ltb doc n)) || ((has right n && ltb doc n) && not (has left n && ltb doc n)))
at_rest_one doc left right n = has-symmetric_difference (above doc left) (above doc right) n ∙ rw (has-above doc left n, has-above doc right n) refl

above_rest_one : (doc n : ℕ) (l r : Bool) → (((l && ltb doc n) && not (r && ltb doc n)) || ((r && ltb doc n) && not (l && ltb doc n))) ≡ true → doc < n
above_rest_one doc n l r h = grind (arith, nat_tests)

one_at : (doc n : ℕ) (l r : Bool) → (l ≡ true → doc ≤ n) → (r ≡ true → doc ≤ n) → (n ≡ doc → l ≡ r → ⊥)
    → ((l && not r) || (r && not l)) ≡ (eqb n doc || (((l && ltb doc n) && not (r && ltb doc n)) || ((r && ltb doc n) && not (l && ltb doc n))))
one_at doc n l r low high h = grind (arith, nat_tests)

none_at : (doc n : ℕ) (l r : Bool) → (l ≡ true → doc ≤ n) → (r ≡ true → doc ≤ n) → (n ≡ doc → l ≡ r)
    → ((l && not r) || (r && not l)) ≡ (((l && ltb doc n) && not (r && ltb doc n)) || ((r && ltb doc n) && not (l && ltb doc n)))
none_at doc n l r low high h = grind (arith, nat_tests)

one_taken : (doc : ℕ) (left right : List ℕ) → IsRising left → First doc left right → (has left doc ≡ has right doc → ⊥)
    → symmetric_difference left right ≡ doc ∷ symmetric_difference (above doc left) (above doc right)
one_taken doc left right rising first differ = same_list (symmetric_difference left right) (doc ∷ symmetric_difference (above doc left) (above doc right)) (rising-symmetric_difference left right rising)
    (rising_cons doc (symmetric_difference (above doc left) (above doc right)) (λ n is. above_rest_one doc n (has left n) (has right n) (sym (at_rest_one doc left right n) ∙ is)) (rising-symmetric_difference (above doc left) (above doc right) (rising-above doc left rising)))
    (λ n. has-symmetric_difference left right n ∙ one_at doc n (has left n) (has right n) (first.left_from n) (first.right_from n) (λ is same. differ (ap (has left) (sym is) ∙ same ∙ ap (has right) is))
    ∙ sym (has-cons doc (symmetric_difference (above doc left) (above doc right)) n ∙ ap (λ b. eqb n doc || b) (at_rest_one doc left right n)))

one_left_out : (doc : ℕ) (left right : List ℕ) → IsRising left → First doc left right → has left doc ≡ has right doc
    → symmetric_difference left right ≡ symmetric_difference (above doc left) (above doc right)
one_left_out doc left right rising first same = same_list (symmetric_difference left right) (symmetric_difference (above doc left) (above doc right)) (rising-symmetric_difference left right rising)
    (rising-symmetric_difference (above doc left) (above doc right) (rising-above doc left rising))
    (λ n. has-symmetric_difference left right n ∙ none_at doc n (has left n) (has right n) (first.left_from n) (first.right_from n) (λ is. ap (has left) is ∙ same ∙ ap (has right) (sym is))
    ∙ sym (at_rest_one doc left right n))

symmetric_none : symmetric_difference [] [] ≡ []
unfolding symmetric_difference union difference
symmetric_none = refl

pub differs : (a b : Bool) → not (beq a b) ≡ true → a ≡ b → ⊥
differs true true h e = false≢true h
differs true false h e = false≢true (sym e)
differs false true h e = false≢true e
differs false false h e = false≢true h

pub agrees : (a b : Bool) → not (beq a b) ≡ false → a ≡ b
agrees true true h = refl
agrees true false h = absurd (false≢true (sym h))
agrees false true h = absurd (false≢true (sym h))
agrees false false h = refl

-- both lists, and the lower of their first documents
pub record Pair (left right near far : List ℕ) (first second : Option ℕ) : Type 0 where
  pub near_is : near ≡ from 0 left
  pub far_is : far ≡ from 0 right
  pub left_rises : IsRising left
  pub right_rises : IsRising right
  pub first_is : first ≡ slice_get near 0
  pub second_is : second ≡ slice_get far 0

module _ (left right near far : List ℕ) (first second : Option ℕ) (pair : Pair left right near far first second) where
  near_left : near ≡ left
  near_left = pair.near_is ∙ from_zero left

  far_right : far ≡ right
  far_right = pair.far_is ∙ from_zero right

  heads : lower first second ≡ lower (slice_get left 0) (slice_get right 0)
  heads = ap (λ (o : Option ℕ). lower o second) (pair.first_is ∙ ap (λ (docs : List ℕ). slice_get docs 0) near_left)
      ∙ ap (lower (slice_get left 0)) (pair.second_is ∙ ap (λ (docs : List ℕ). slice_get docs 0) far_right)

  pub pair_ended : None ≡ lower first second → (symmetric_difference left right ≡ []) × (symmetric_difference near far ≡ [])
  pair_ended e =
      let ends = lower_none left right (e ∙ heads) in
      let none : symmetric_difference left right ≡ [] = ap (λ (docs : List ℕ). symmetric_difference docs right) ends.0 ∙ ap (symmetric_difference []) ends.1 ∙ symmetric_none in
      (none, ap (λ (docs : List ℕ). symmetric_difference docs far) near_left ∙ ap (symmetric_difference left) far_right ∙ none)

  module _ (found : ℕ) (e : Some found ≡ lower first second) where
    lowest : First found left right
    lowest = lower_first found left right pair.left_rises pair.right_rises (e ∙ heads)

    pub pair_taken : (has near found ≡ has far found → ⊥) → symmetric_difference left right ≡ found ∷ symmetric_difference (above found near) (above found far)
    pair_taken differ = one_taken found left right pair.left_rises lowest (λ same. differ (ap (λ (docs : List ℕ). has docs found) near_left ∙ same ∙ ap (λ (docs : List ℕ). has docs found) (sym far_right)))
        ∙ ap (λ (docs : List ℕ). found ∷ symmetric_difference (above found docs) (above found right)) (sym near_left)
        ∙ ap (λ (docs : List ℕ). found ∷ symmetric_difference (above found near) (above found docs)) (sym far_right)

    pub pair_left_out : has near found ≡ has far found → symmetric_difference (above found near) (above found far) ≡ symmetric_difference left right
    pair_left_out same = sym (one_left_out found left right pair.left_rises lowest (ap (λ (docs : List ℕ). has docs found) (sym near_left) ∙ same ∙ ap (λ (docs : List ℕ). has docs found) far_right)
        ∙ ap (λ (docs : List ℕ). symmetric_difference (above found docs) (above found right)) (sym near_left)
        ∙ ap (λ (docs : List ℕ). symmetric_difference (above found near) (above found docs)) (sym far_right))

    pub pair_shorter : length (union (above found near) (above found far)) < length (union left right)
    pair_shorter = omega (
      arith,
      ap length (union_first found left right pair.left_rises lowest
          ∙ ap (λ (docs : List ℕ). found ∷ union (above found docs) (above found right)) (sym near_left)
          ∙ ap (λ (docs : List ℕ). found ∷ union (above found near) (above found docs)) (sym far_right)),
    )

pub one_reached : (doc : ℕ) (left right all near far new : List ℕ) (taken : Option ℕ) → symmetric_difference left right ≡ all → IsRising left → IsRising right → near ≡ from doc left → far ≡ from doc right
    → Takes (symmetric_difference near far) taken new → Takes (from doc all) taken new
one_reached doc left right all near far new taken is r s n f takes = subst (λ (docs : List ℕ). Takes docs taken new)
    (sym (ap (from doc) (sym is) ∙ from_symmetric doc left right r s ∙ ap (λ (docs : List ℕ). symmetric_difference docs (from doc right)) (sym n) ∙ ap (symmetric_difference near) (sym f))) takes
