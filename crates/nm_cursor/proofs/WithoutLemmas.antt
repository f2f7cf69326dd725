-- What a document of the first cursor leaves of the difference. Cited by the proofs of `without`.
use Rattle.std.proofs.Common.{◌≡◌, refl, sym, ap, subst, ◌∙◌, ℕ, ◌<◌, Bool, true, false, eqb, ltb, leb, List, [], ◌∷◌, Option, arith}
use Rattle.std.specs.Prelude.{not, ◌&&◌, ◌||◌}
use Rattle.std.proofs.lemmas.Bool.{and_parts}
use Rattle.std.proofs.lemmas.Bool.Decides.{nat_tests}
use Rattle.nm_cursor.specs.Sets.{IsRising, Takes, has, from, above, difference}
use Rattle.nm_cursor.proofs.SetLemmas.{has-cons, has-above, has-difference, first_below, rising_rest, rising_cons, rising-difference, same_list}
use Rattle.nm_cursor.proofs.FromLemmas.{filters_swap}

from_difference : (doc : ℕ) (left right : List ℕ) → from doc (difference left right) ≡ difference (from doc left) right
unfolding from difference
from_difference doc left right = filters_swap (λ other. not (has right other)) (leb doc) left

pub difference_none : (right : List ℕ) → difference [] right ≡ []
unfolding difference
difference_none right = refl

without_rise : (x : ℕ) (left right : List ℕ) → IsRising (x ∷ left) → IsRising (x ∷ difference left right)
without_rise x left right rising = rising_cons x (difference left right) (λ n is. first_below x left rising n (and_parts (has left n) (not (has right n)) (sym (has-difference left right n) ∙ is)).0)
    (rising-difference left right (rising_rest x left rising))

at_kept : (x : ℕ) (xs right : List ℕ) (n : ℕ) → has (difference (x ∷ xs) right) n ≡ ((eqb n x || has xs n) && not (has right n))
at_kept x xs right n = has-difference (x ∷ xs) right n ∙ ap (λ b. b && not (has right n)) (has-cons x xs n)

at_above : (x : ℕ) (left right : List ℕ) (n : ℕ) → has (difference left (above x right)) n ≡ (has left n && not (has right n && ltb x n))
at_above x left right n = has-difference left (above x right) n ∙ ap (λ b. has left n && not b) (has-above x right n)

kept_at : (w n : ℕ) (l r : Bool) → (l ≡ true → w < n) → (n ≡ w → r ≡ false) → ((eqb n w || l) && not r) ≡ (eqb n w || (l && not (r && ltb w n)))
kept_at w n l r low h = grind (arith, nat_tests)

kept : (w : ℕ) (left right : List ℕ) → IsRising (w ∷ left) → false ≡ has right w → difference (w ∷ left) right ≡ w ∷ difference left (above w right)
kept w left right rising lacks = same_list (difference (w ∷ left) right) (w ∷ difference left (above w right)) (rising-difference (w ∷ left) right rising) (without_rise w left (above w right) rising)
    (λ n. at_kept w left right n ∙ kept_at w n (has left n) (has right n) (first_below w left rising n) (λ is. ap (has right) is ∙ sym lacks)
    ∙ sym (has-cons w (difference left (above w right)) n ∙ ap (λ b. eqb n w || b) (at_above w left right n)))

dropped_at : (w n : ℕ) (l r : Bool) → (l ≡ true → w < n) → (n ≡ w → r ≡ true) → ((eqb n w || l) && not r) ≡ (l && not (r && ltb w n))
dropped_at w n l r low h = grind (arith, nat_tests)

dropped : (w : ℕ) (left right : List ℕ) → IsRising (w ∷ left) → true ≡ has right w → difference (w ∷ left) right ≡ difference left (above w right)
dropped w left right rising had = same_list (difference (w ∷ left) right) (difference left (above w right)) (rising-difference (w ∷ left) right rising) (rising-difference left (above w right) (rising_rest w left rising))
    (λ n. at_kept w left right n ∙ dropped_at w n (has left n) (has right n) (first_below w left rising n) (λ is. ap (has right) is ∙ sym had) ∙ sym (at_above w left right n))

pub without_none : (doc : ℕ) (left right all rest : List ℕ) → difference left right ≡ all → from doc left ≡ [] → rest ≡ [] → (from doc all ≡ []) × (difference rest right ≡ [])
without_none doc left right all rest is e none = (
  ap (from doc) (sym is) ∙ from_difference doc left right ∙ ap (λ (docs : List ℕ). difference docs right) e ∙ difference_none right,
  ap (λ (docs : List ℕ). difference docs right) none ∙ difference_none right,
)

pub without_some : (doc wanted : ℕ) (left right all rest new : List ℕ) (taken : Option ℕ) → difference left right ≡ all → from doc left ≡ wanted ∷ rest → Takes (difference (wanted ∷ rest) right) taken new → Takes (from doc all) taken new
without_some doc wanted left right all rest new taken is e takes = subst (λ (docs : List ℕ). Takes docs taken new)
    (sym (ap (from doc) (sym is) ∙ from_difference doc left right ∙ ap (λ (docs : List ℕ). difference docs right) e)) takes

module _ (wanted : ℕ) (left right after : List ℕ) (rising : IsRising (wanted ∷ left)) (rest : after ≡ above wanted right) where
  pub pass_on : (tested : Bool) → tested ≡ true → tested ≡ has right wanted → difference (wanted ∷ left) right ≡ difference left after
  pass_on tested is had = dropped wanted left right rising (sym is ∙ had) ∙ ap (difference left) (sym rest)

  pub pass_kept : (tested : Bool) → tested ≡ false → tested ≡ has right wanted → difference (wanted ∷ left) right ≡ wanted ∷ difference left after
  pass_kept tested is had = kept wanted left right rising (sym is ∙ had) ∙ ap (λ (docs : List ℕ). wanted ∷ difference left docs) (sym rest)
