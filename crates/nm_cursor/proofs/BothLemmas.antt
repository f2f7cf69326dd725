-- What a leap of one cursor leaves of the intersection. Cited by the proofs of `both`.
use Rattle.std.proofs.Common.{◌≡◌, refl, sym, ap, subst, ◌∙◌, ℕ, ◌<◌, ◌≤◌, Bool, true, false, eqb, leb, List, [], ◌∷◌, Option, arith}
use Rattle.std.specs.Prelude.{◌&&◌, ◌||◌}
use Rattle.std.proofs.lemmas.Bool.{and_parts}
use Rattle.std.proofs.lemmas.Bool.Decides.{nat_tests}
use Rattle.nm_cursor.specs.Sets.{IsRising, Takes, has, from, intersection}
use Rattle.nm_cursor.proofs.SetLemmas.{has-none, has-cons, has-intersection, first_below, rising_rest, rising_cons, rising-intersection, same_list}
use Rattle.nm_cursor.proofs.FromLemmas.{at_end, at_from, filter_none, filters_swap, found_above, from_rises, nothing}

at_first : (x : ℕ) (xs right : List ℕ) (n : ℕ) → has (intersection (x ∷ xs) right) n ≡ ((eqb n x || has xs n) && has right n)
at_first x xs right n = has-intersection (x ∷ xs) right n ∙ ap (λ b. b && has right n) (has-cons x xs n)

at_taken : (x : ℕ) (left right : List ℕ) (n : ℕ) → has (x ∷ intersection left right) n ≡ (eqb n x || (has left n && has right n))
at_taken x left right n = has-cons x (intersection left right) n ∙ ap (λ b. eqb n x || b) (has-intersection left right n)

both_rise : (x : ℕ) (left right : List ℕ) → IsRising (x ∷ left) → IsRising (x ∷ intersection left right)
both_rise x left right rising = rising_cons x (intersection left right) (λ n is. first_below x left rising n (and_parts (has left n) (has right n) (sym (has-intersection left right n) ∙ is)).0)
    (rising-intersection left right (rising_rest x left rising))

met_at : (w n : ℕ) (l r s : Bool) → (l ≡ true → w < n) → (r && leb w n) ≡ (eqb n w || s) → ((eqb n w || l) && r) ≡ (eqb n w || (l && s))
met_at w n l r s low h = grind (arith, nat_tests)

pub met : (w x : ℕ) (left right new : List ℕ) → IsRising (w ∷ left) → from w right ≡ x ∷ new → x ≡ w → intersection (w ∷ left) right ≡ x ∷ intersection left new
met w x left right new rising e is =
    let here : from w right ≡ w ∷ new = e ∙ ap (λ (y : ℕ). y ∷ new) is in
    same_list (intersection (w ∷ left) right) (w ∷ intersection left new) (rising-intersection (w ∷ left) right rising) (both_rise w left new rising)
    (λ n. at_first w left right n ∙ met_at w n (has left n) (has right n) (has new n) (first_below w left rising n) (at_from w w right new here n) ∙ sym (at_taken w left new n))
    ∙ ap (λ (y : ℕ). y ∷ intersection left new) (sym is)

ended_at : (w n : ℕ) (l r : Bool) → (l ≡ true → w < n) → (r && leb w n) ≡ false → ((eqb n w || l) && r) ≡ false
ended_at w n l r low h = grind (arith, nat_tests)

pub second_ended : (w : ℕ) (left right : List ℕ) → IsRising (w ∷ left) → from w right ≡ [] → intersection (w ∷ left) right ≡ []
second_ended w left right rising e = nothing (intersection (w ∷ left) right) (rising-intersection (w ∷ left) right rising)
    (λ n. at_first w left right n ∙ ended_at w n (has left n) (has right n) (first_below w left rising n) (at_end w right e n))

first_ended_at : (w x n : ℕ) (l r s : Bool) → (l ≡ true → w < n) → (s ≡ true → x < n) → w ≤ x → (x ≡ w → ⊥) → (r && leb w n) ≡ (eqb n x || s) → (l && leb x n) ≡ false → ((eqb n w || l) && r) ≡ false
first_ended_at w x n l r s low high order other h g = grind (arith, nat_tests)

pub first_ended : (w x : ℕ) (left right new : List ℕ) → IsRising (w ∷ left) → IsRising right → from w right ≡ x ∷ new → (x ≡ w → ⊥) → from x left ≡ [] → intersection (w ∷ left) right ≡ []
first_ended w x left right new rising rises e other end = nothing (intersection (w ∷ left) right) (rising-intersection (w ∷ left) right rising)
    (λ n. at_first w left right n ∙ first_ended_at w x n (has left n) (has right n) (has new n) (first_below w left rising n) (first_below x new (from_rises w x right new e rises) n)
    (found_above w x right new e) other (at_from w x right new e n) (at_end x left end n))

leapt_at : (w x y n : ℕ) (l r s k : Bool) → (l ≡ true → w < n) → (s ≡ true → x < n) → (k ≡ true → y < n) → w ≤ x → (x ≡ w → ⊥) → x ≤ y → (y ≡ x → ⊥)
    → (r && leb w n) ≡ (eqb n x || s) → (l && leb x n) ≡ (eqb n y || k) → ((eqb n w || l) && r) ≡ ((eqb n y || k) && s)
leapt_at w x y n l r s k low high rest order other later' further h g = grind (arith, nat_tests)

pub leapt : (w x y : ℕ) (left right new rest : List ℕ) → IsRising (w ∷ left) → IsRising right → from w right ≡ x ∷ new → (x ≡ w → ⊥) → from x left ≡ y ∷ rest → (y ≡ x → ⊥)
    → intersection (y ∷ rest) new ≡ intersection (w ∷ left) right
leapt w x y left right new rest rising rises e other f further =
    let rest_rises : IsRising (y ∷ rest) = from_rises x y left rest f (rising_rest w left rising) in
    same_list (intersection (y ∷ rest) new) (intersection (w ∷ left) right) (rising-intersection (y ∷ rest) new rest_rises) (rising-intersection (w ∷ left) right rising)
    (λ n. at_first y rest new n ∙ sym (at_first w left right n ∙ leapt_at w x y n (has left n) (has right n) (has new n) (has rest n)
    (first_below w left rising n) (first_below x new (from_rises w x right new e rises) n) (first_below y rest rest_rises n)
    (found_above w x right new e) other (found_above x y left rest f) further (at_from w x right new e n) (at_from x y left rest f n)))

leapt_same_at : (w x n : ℕ) (l r s k : Bool) → (l ≡ true → w < n) → (s ≡ true → x < n) → (k ≡ true → x < n) → w ≤ x → (x ≡ w → ⊥)
    → (r && leb w n) ≡ (eqb n x || s) → (l && leb x n) ≡ (eqb n x || k) → ((eqb n w || l) && r) ≡ (eqb n x || (k && s))
leapt_same_at w x n l r s k low high rest order other h g = grind (arith, nat_tests)

pub leapt_same : (w x y : ℕ) (left right new rest : List ℕ) → IsRising (w ∷ left) → IsRising right → from w right ≡ x ∷ new → (x ≡ w → ⊥) → from x left ≡ y ∷ rest → y ≡ x
    → intersection (w ∷ left) right ≡ y ∷ intersection rest new
leapt_same w x y left right new rest rising rises e other f is =
    let here : from x left ≡ x ∷ rest = f ∙ ap (λ (z : ℕ). z ∷ rest) is in
    let rest_rises : IsRising (x ∷ rest) = from_rises x x left rest here (rising_rest w left rising) in
    same_list (intersection (w ∷ left) right) (x ∷ intersection rest new) (rising-intersection (w ∷ left) right rising) (both_rise x rest new rest_rises)
    (λ n. at_first w left right n ∙ leapt_same_at w x n (has left n) (has right n) (has new n) (has rest n)
    (first_below w left rising n) (first_below x new (from_rises w x right new e rises) n) (first_below x rest rest_rises n)
    (found_above w x right new e) other (at_from w x right new e n) (at_from x x left rest here n) ∙ sym (at_taken x rest new n))
    ∙ ap (λ (z : ℕ). z ∷ intersection rest new) (sym is)

from_intersection : (doc : ℕ) (left right : List ℕ) → from doc (intersection left right) ≡ intersection (from doc left) right
unfolding from intersection
from_intersection doc left right = filters_swap (has right) (leb doc) left

pub intersection_none : (right : List ℕ) → intersection [] right ≡ []
unfolding intersection
intersection_none right = refl

pub none_shared : (left : List ℕ) → intersection left [] ≡ []
unfolding intersection
none_shared left = filter_none (has []) left (λ n is. has-none n)

pub both_none : (doc : ℕ) (left right all rest : List ℕ) → intersection left right ≡ all → from doc left ≡ [] → rest ≡ [] → (from doc all ≡ []) × (intersection rest right ≡ [])
both_none doc left right all rest is e none = (
  ap (from doc) (sym is) ∙ from_intersection doc left right ∙ ap (λ (docs : List ℕ). intersection docs right) e ∙ intersection_none right,
  ap (λ (docs : List ℕ). intersection docs right) none ∙ intersection_none right,
)

pub both_some : (doc wanted : ℕ) (left right all rest new : List ℕ) (taken : Option ℕ) → intersection left right ≡ all → from doc left ≡ wanted ∷ rest → Takes (intersection (wanted ∷ rest) right) taken new → Takes (from doc all) taken new
both_some doc wanted left right all rest new taken is e takes = subst (λ (docs : List ℕ). Takes docs taken new)
    (sym (ap (from doc) (sym is) ∙ from_intersection doc left right ∙ ap (λ (docs : List ℕ). intersection docs right) e)) takes
