-- The lower of two first documents, and what it leaves of the union. Cited by the proofs of `either`.
use Rattle.std.proofs.Common.{◌≡◌, refl, sym, ap, subst, ◌∙◌, ℕ, ◌<◌, ◌≤◌, Bool, true, false, cond, eqb, ltb, leb, List, [], ◌∷◌, Option, Some, None, arith}
use Rattle.std.specs.Prelude.{◌&&◌, ◌||◌, slice_get}
use Rattle.std.proofs.lemmas.Bool.{false≢true, ltb-true, ltb-false}
use Rattle.std.proofs.lemmas.Bool.Decides.{nat_tests}
use Rattle.nm_cursor.specs.Sets.{IsRising, has, from, above, union}
use Rattle.nm_cursor.specs.Ahead.{lower}
use Rattle.nm_cursor.proofs.SetLemmas.{has-none, has-first, has-cons, has-from, has-above, has-union, rising_cons, rising-from, rising-above, rising-union, same_list}
use Rattle.nm_cursor.proofs.FromLemmas.{not_below, or_second, up_to, weaker}

-- one of the lists has the document, and neither has one below it
pub record First (doc : ℕ) (left right : List ℕ) : Type 0 where
  pub there : (has left doc || has right doc) ≡ true
  pub left_from : (n : ℕ) → has left n ≡ true → doc ≤ n
  pub right_from : (n : ℕ) → has right n ≡ true → doc ≤ n

never : (n : ℕ) (P : Type 0) → has [] n ≡ true → P
never n P is = absurd (false≢true (sym (has-none n) ∙ is))

or_first : (a b : Bool) → a ≡ true → (a || b) ≡ true
or_first a b is = grind arith

first_left : (x : ℕ) (xs : List ℕ) → IsRising (x ∷ xs) → First x (x ∷ xs) []
first_left x xs rising = record {
  there = or_first (has (x ∷ xs) x) (has [] x) (has-first x xs);
  left_from = not_below x xs rising;
  right_from = λ n. never n (x ≤ n);
}

first_right : (y : ℕ) (ys : List ℕ) → IsRising (y ∷ ys) → First y [] (y ∷ ys)
first_right y ys rising = record {
  there = or_second (has [] y) (has (y ∷ ys) y) (has-first y ys);
  left_from = λ n. never n (y ≤ n);
  right_from = not_below y ys rising;
}

first_lower : (b : Bool) (x y : ℕ) (xs ys : List ℕ) → ltb y x ≡ b → IsRising (x ∷ xs) → IsRising (y ∷ ys) → First (cond b y x) (x ∷ xs) (y ∷ ys)
first_lower true x y xs ys is r s = record {
  there = or_second (has (x ∷ xs) y) (has (y ∷ ys) y) (has-first y ys);
  left_from = λ n there. up_to y x n (weaker y x (ltb-true y x is)) (not_below x xs r n there);
  right_from = not_below y ys s;
}
first_lower false x y xs ys is r s = record {
  there = or_first (has (x ∷ xs) x) (has (y ∷ ys) x) (has-first x xs);
  left_from = not_below x xs r;
  right_from = λ n there. up_to x y n (ltb-false y x is) (not_below y ys s n there);
}

pub lower_first : (doc : ℕ) (left right : List ℕ) → IsRising left → IsRising right → Some doc ≡ lower (slice_get left 0) (slice_get right 0) → First doc left right
lower_first doc [] [] r s e = absurd (cc)
lower_first doc [] (y ∷ ys) r s e = let is : y ≡ doc = cc in subst (λ (d : ℕ). First d [] (y ∷ ys)) is (first_right y ys s)
lower_first doc (x ∷ xs) [] r s e = let is : x ≡ doc = cc in subst (λ (d : ℕ). First d (x ∷ xs) []) is (first_left x xs r)
lower_first doc (x ∷ xs) (y ∷ ys) r s e = let is : cond (ltb y x) y x ≡ doc = cc in subst (λ (d : ℕ). First d (x ∷ xs) (y ∷ ys)) is (first_lower (ltb y x) x y xs ys refl r s)

pub lower_none : (left right : List ℕ) → None ≡ lower (slice_get left 0) (slice_get right 0) → (left ≡ []) × (right ≡ [])
lower_none [] [] e = (refl, refl)
lower_none [] (y ∷ ys) e = absurd (cc)
lower_none (x ∷ xs) [] e = absurd (cc)
lower_none (x ∷ xs) (y ∷ ys) e = absurd (cc)

union_from_at : (l r f : Bool) → ((l || r) && f) ≡ ((l && f) || (r && f))
union_from_at l r f = grind arith

from_union : (doc : ℕ) (left right : List ℕ) → IsRising left → IsRising right → from doc (union left right) ≡ union (from doc left) (from doc right)
from_union doc left right r s = same_list (from doc (union left right)) (union (from doc left) (from doc right)) (rising-from doc (union left right) (rising-union left right r)) (rising-union (from doc left) (from doc right) (rising-from doc left r))
    (λ n. has-from doc (union left right) n ∙ ap (λ b. b && leb doc n) (has-union left right n) ∙ union_from_at (has left n) (has right n) (leb doc n)
    ∙ sym (has-union (from doc left) (from doc right) n ∙ rw (has-from doc left n, has-from doc right n) refl))

at_rest : (doc : ℕ) (left right : List ℕ) (n : ℕ) → has (union (above doc left) (above doc right)) n ≡ ((has left n && ltb doc n) || (has right n && ltb doc n))
at_rest doc left right n = has-union (above doc left) (above doc right) n ∙ rw (has-above doc left n, has-above doc right n) refl

above_rest_by : (doc n : ℕ) (l r : Bool) → ((l && ltb doc n) || (r && ltb doc n)) ≡ true → doc < n
above_rest_by doc n l r h = grind (arith, nat_tests)

union_at : (doc n : ℕ) (l r : Bool) → (l ≡ true → doc ≤ n) → (r ≡ true → doc ≤ n) → (n ≡ doc → (l || r) ≡ true) → (l || r) ≡ (eqb n doc || ((l && ltb doc n) || (r && ltb doc n)))
union_at doc n l r low high h = grind (arith, nat_tests)

pub union_first : (doc : ℕ) (left right : List ℕ) → IsRising left → First doc left right → union left right ≡ doc ∷ union (above doc left) (above doc right)
union_first doc left right rising first = same_list (union left right) (doc ∷ union (above doc left) (above doc right)) (rising-union left right rising)
    (rising_cons doc (union (above doc left) (above doc right)) (λ n is. above_rest_by doc n (has left n) (has right n) (sym (at_rest doc left right n) ∙ is)) (rising-union (above doc left) (above doc right) (rising-above doc left rising)))
    (λ n. has-union left right n ∙ union_at doc n (has left n) (has right n) (first.left_from n) (first.right_from n) (λ is. ap (λ (m : ℕ). has left m || has right m) is ∙ first.there)
    ∙ sym (has-cons doc (union (above doc left) (above doc right)) n ∙ ap (λ b. eqb n doc || b) (at_rest doc left right n)))

union_none : union [] [] ≡ []
unfolding union
union_none = refl

pub either_none : (doc : ℕ) (left right all near far : List ℕ) (first second : Option ℕ) → union left right ≡ all → IsRising left → IsRising right → near ≡ from doc left → far ≡ from doc right
    → first ≡ slice_get near 0 → second ≡ slice_get far 0 → None ≡ lower first second → (from doc all ≡ []) × (union near far ≡ [])
either_none doc left right all near far first second is r s n f a b e =
    let ends = lower_none near far (e ∙ ap (λ (o : Option ℕ). lower o second) a ∙ ap (lower (slice_get near 0)) b) in
    let none : union near far ≡ [] = ap (λ (docs : List ℕ). union docs far) ends.0 ∙ ap (union []) ends.1 ∙ union_none in
    (ap (from doc) (sym is) ∙ from_union doc left right r s ∙ ap (λ (docs : List ℕ). union docs (from doc right)) (sym n) ∙ ap (union near) (sym f) ∙ none, none)

pub either_some : (doc found : ℕ) (left right all near far : List ℕ) (first second : Option ℕ) → union left right ≡ all → IsRising left → IsRising right → near ≡ from doc left → far ≡ from doc right
    → first ≡ slice_get near 0 → second ≡ slice_get far 0 → Some found ≡ lower first second → from doc all ≡ found ∷ union (above found near) (above found far)
either_some doc found left right all near far first second is r s n f a b e =
    let near_rises : IsRising near = subst IsRising (sym n) (rising-from doc left r) in
    let far_rises : IsRising far = subst IsRising (sym f) (rising-from doc right s) in
    let lowest : First found near far = lower_first found near far near_rises far_rises (e ∙ ap (λ (o : Option ℕ). lower o second) a ∙ ap (lower (slice_get near 0)) b) in
    ap (from doc) (sym is) ∙ from_union doc left right r s ∙ ap (λ (docs : List ℕ). union docs (from doc right)) (sym n) ∙ ap (union near) (sym f) ∙ union_first found near far near_rises lowest
