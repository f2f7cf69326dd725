-- What a list has after a filter, an insertion or a union, and that this and the order decide a rising list.
-- Cited by `laws`, and by the lemmas of the cursors.
use Rattle.std.proofs.Common.{◌≡◌, refl, sym, ap, subst, ◌∙◌, ℕ, ◌<◌, Bool, true, false, cond, eqb, ltb, leb, List, [], ◌∷◌, arith, inl, inr}
use Rattle.std.specs.Prelude.{not, ◌&&◌, ◌||◌}
use Rattle.std.proofs.lemmas.Bool.{eqb-true, eq-eqb, or_cases, false≢true, false_from_ne_true}
use Rattle.std.proofs.lemmas.Bool.Decides.{nat_tests}
use Rattle.std.specs.declared.cmp.Ordering.{Ordering}
use Rattle.std.specs.declared.cmp.Ordering.TheVariants.{Less, Equal, Greater}
use Rattle.std.specs.BTreeSet.{insert_key}
use Rattle.std.specs.List.{filter, fold, AllByRecursion}
use Rattle.std.specs.List.Sorted.{IsStrictlySortedBy}
use Rattle.std.specs.Ordering.{nat_cmp, match_ordering}
use Rattle.std.proofs.lemmas.List.Kept.{IsStrictlySortedBy-filter}
use Rattle.std.specs.List.{Contains}
use Rattle.std.proofs.Common.{get_or}
use Rattle.std.proofs.lemmas.List.Folds.{Any-from_list_any, list_any_at}
use Rattle.nm_cursor.specs.Sets.{IsRising, has, from, above, intersection, difference, union, symmetric_difference}

cmp-Less : (x y : ℕ) → nat_cmp x y ≡ Less → x < y
cmp-Less x y h = grind (arith, nat_tests)

Less-cmp : (x y : ℕ) → x < y → nat_cmp x y ≡ Less
Less-cmp x y h = grind (arith, nat_tests)

-- ---- what a list has

has-cond : (b : Bool) (x : ℕ) (xs : List ℕ) (n : ℕ) → has (cond b (x ∷ xs) xs) n ≡ ((b && eqb n x) || has xs n)
unfolding has
has-cond true x xs n = refl
has-cond false x xs n = refl

cmp-Equal : (x y : ℕ) → nat_cmp x y ≡ Equal → x ≡ y
cmp-Equal x y h = grind (arith, nat_tests)

cmp-Greater : (x y : ℕ) → nat_cmp x y ≡ Greater → y < x
cmp-Greater x y h = grind (arith, nat_tests)

-- ---- tests

regrouped : (a b c : Bool) → ((a || b) || c) ≡ (b || (a || c))
regrouped a b c = grind arith

swapped : (a b c : Bool) → (a || (b || c)) ≡ (b || (a || c))
swapped a b c = grind arith

twice : (a b : Bool) → (a || b) ≡ (a || (a || b))
twice a b = grind arith

or_none : (a : Bool) → (a || false) ≡ a
or_none a = grind arith

or_all : (a : Bool) → (a || true) ≡ true
or_all a = grind arith

same_rest : (t a b : Bool) → (t || a) ≡ (t || b) → (t ≡ true → a ≡ false) → (t ≡ true → b ≡ false) → a ≡ b
same_rest t a b h f g = grind arith

further : (k x n : ℕ) → k < x → x < n → k < n
further k x n h g = omega arith

no_circle : (x y : ℕ) → y < x → x < y → ⊥
no_circle x y h g = omega arith

one_more : (a t h q : Bool) → (t ≡ true → a ≡ q) → ((a && t) || (h && q)) ≡ ((t || h) && q)
one_more a t h q same = grind arith

pub has-filter : (p : ℕ → Bool) (docs : List ℕ) (n : ℕ) → has (filter p docs) n ≡ (has docs n && p n)
unfolding has
has-filter p [] n = refl
has-filter p (x ∷ xs) n =
    has-cond (p x) x (filter p xs) n
    ∙ ap (λ rest. (p x && eqb n x) || rest) (has-filter p xs n)
    ∙ one_more (p x) (eqb n x) (has xs n) (p n) (λ is. ap p (sym (eqb-true n x is)))

insert_by : (k x : ℕ) (xs more : List ℕ) (n : ℕ) (answer : Ordering) → nat_cmp k x ≡ answer → has more n ≡ (eqb n k || has xs n)
    → has (match_ordering answer (k ∷ x ∷ xs) (x ∷ xs) (x ∷ more)) n ≡ (eqb n k || (eqb n x || has xs n))
unfolding has
insert_by k x xs more n Less is h = refl
insert_by k x xs more n Equal is h = rw (cmp-Equal k x is) (twice (eqb n x) (has xs n))
insert_by k x xs more n Greater is h = ap (λ rest. eqb n x || rest) h ∙ swapped (eqb n x) (eqb n k) (has xs n)

pub has-insert : (k : ℕ) (docs : List ℕ) (n : ℕ) → has (insert_key nat_cmp docs k) n ≡ (eqb n k || has docs n)
unfolding has
has-insert k [] n = refl
has-insert k (x ∷ xs) n = insert_by k x xs (insert_key nat_cmp xs k) n (nat_cmp k x) refl (has-insert k xs n)

has-fold : (left right : List ℕ) (n : ℕ) → has (fold (insert_key nat_cmp) left right) n ≡ (has left n || has right n)
unfolding has
has-fold left [] n = sym (or_none (has left n))
has-fold left (x ∷ xs) n =
    has-fold (insert_key nat_cmp left x) xs n
    ∙ ap (λ first. first || has xs n) (has-insert x left n)
    ∙ regrouped (eqb n x) (has left n) (has xs n)

pub has-union : (left right : List ℕ) (n : ℕ) → has (union left right) n ≡ (has left n || has right n)
unfolding union
has-union left right n = has-fold left right n

pub has-from : (doc : ℕ) (docs : List ℕ) (n : ℕ) → has (from doc docs) n ≡ (has docs n && leb doc n)
unfolding from
has-from doc docs n = has-filter (leb doc) docs n

pub has-above : (doc : ℕ) (docs : List ℕ) (n : ℕ) → has (above doc docs) n ≡ (has docs n && ltb doc n)
unfolding above
has-above doc docs n = has-filter (ltb doc) docs n

pub has-intersection : (left right : List ℕ) (n : ℕ) → has (intersection left right) n ≡ (has left n && has right n)
unfolding intersection
has-intersection left right n = has-filter (has right) left n

pub has-difference : (left right : List ℕ) (n : ℕ) → has (difference left right) n ≡ (has left n && not (has right n))
unfolding difference
has-difference left right n = has-filter (λ doc. not (has right doc)) left n

pub has-symmetric_difference : (left right : List ℕ) (n : ℕ) → has (symmetric_difference left right) n ≡ ((has left n && not (has right n)) || (has right n && not (has left n)))
unfolding symmetric_difference
has-symmetric_difference left right n = rw (has-union (difference left right) (difference right left) n, has-difference left right n, has-difference right left n)

pub has-first : (x : ℕ) (xs : List ℕ) → has (x ∷ xs) x ≡ true
unfolding has
has-first x xs = rw (eq-eqb x x refl)

pub has-cons : (x : ℕ) (xs : List ℕ) (n : ℕ) → has (x ∷ xs) n ≡ (eqb n x || has xs n)
unfolding has
has-cons x xs n = refl

pub has-none : (n : ℕ) → has [] n ≡ false
unfolding has
has-none n = refl

-- what holds of each is what holds of all that the list has
all_had : (P : ℕ → Type 0) (docs : List ℕ) → AllByRecursion P docs → (n : ℕ) → has docs n ≡ true → P n
unfolding has
all_had P [] all n is = absurd (false≢true is)
all_had P (x ∷ xs) all n is = elim (or_cases (eqb n x) (has xs n) is) [
  | inl here ↦ subst P (sym (eqb-true n x here)) all.0
  | inr there ↦ all_had P xs all.1 n there
]

had_all : (P : ℕ → Type 0) (docs : List ℕ) → ((n : ℕ) → has docs n ≡ true → P n) → AllByRecursion P docs
had_all P [] each = tt
had_all P (x ∷ xs) each = (each x (has-first x xs), had_all P xs (λ n is. each n (rw (has-cons x xs n, is) (or_all (eqb n x)))))

-- ---- rising lists

pub first_below : (x : ℕ) (xs : List ℕ) → IsRising (x ∷ xs) → (n : ℕ) → has xs n ≡ true → x < n
unfolding IsStrictlySortedBy
first_below x xs rising n is = cmp-Less x n (all_had (λ y. nat_cmp x y ≡ Less) xs rising.0 n is)

pub rising_rest : (x : ℕ) (xs : List ℕ) → IsRising (x ∷ xs) → IsRising xs
unfolding IsStrictlySortedBy
rising_rest x xs rising = rising.1

pub rising_cons : (x : ℕ) (xs : List ℕ) → ((n : ℕ) → has xs n ≡ true → x < n) → IsRising xs → IsRising (x ∷ xs)
unfolding IsStrictlySortedBy
rising_cons x xs each rising = (had_all (λ y. nat_cmp x y ≡ Less) xs (λ n is. Less-cmp x n (each n is)), rising)

pub rising_none : IsRising []
unfolding IsStrictlySortedBy
rising_none = tt

below_rest : (k x : ℕ) (xs : List ℕ) (n : ℕ) → k < x → IsRising (x ∷ xs) → has (x ∷ xs) n ≡ true → k < n
below_rest k x xs n below' rising there = elim (or_cases (eqb n x) (has xs n) (sym (has-cons x xs n) ∙ there)) [
  | inl here ↦ subst (λ (m : ℕ). k < m) (sym (eqb-true n x here)) below'
  | inr rest ↦ further k x n below' (first_below x xs rising n rest)
]

rising_by : (k x : ℕ) (xs more : List ℕ) (answer : Ordering) → nat_cmp k x ≡ answer → IsRising (x ∷ xs) → IsRising more → ((n : ℕ) → has more n ≡ (eqb n k || has xs n))
    → IsRising (match_ordering answer (k ∷ x ∷ xs) (x ∷ xs) (x ∷ more))
rising_by k x xs more Less is rising h had = rising_cons k (x ∷ xs) (λ n there. below_rest k x xs n (cmp-Less k x is) rising there) rising
rising_by k x xs more Equal is rising h had = rising
rising_by k x xs more Greater is rising h had = rising_cons x more (λ n there. elim (or_cases (eqb n k) (has xs n) (sym (had n) ∙ there)) [
  | inl here ↦ subst (λ (m : ℕ). x < m) (sym (eqb-true n k here)) (cmp-Greater k x is)
  | inr rest ↦ first_below x xs rising n rest
]) h

pub rising-insert : (k : ℕ) (docs : List ℕ) → IsRising docs → IsRising (insert_key nat_cmp docs k)
rising-insert k [] rising = rising_cons k [] (λ n is. absurd (false≢true (sym (has-none n) ∙ is))) rising
rising-insert k (x ∷ xs) rising = rising_by k x xs (insert_key nat_cmp xs k) (nat_cmp k x) refl rising (rising-insert k xs (rising_rest x xs rising)) (has-insert k xs)

rising-fold : (left right : List ℕ) → IsRising left → IsRising (fold (insert_key nat_cmp) left right)
rising-fold left [] rising = rising
rising-fold left (x ∷ xs) rising = rising-fold (insert_key nat_cmp left x) xs (rising-insert x left rising)

pub rising-union : (left right : List ℕ) → IsRising left → IsRising (union left right)
unfolding union
rising-union left right rising = rising-fold left right rising

pub rising-filter : (p : ℕ → Bool) (docs : List ℕ) → IsRising docs → IsRising (filter p docs)
rising-filter p docs rising = IsStrictlySortedBy-filter nat_cmp p docs rising

pub rising-from : (doc : ℕ) (docs : List ℕ) → IsRising docs → IsRising (from doc docs)
unfolding from
rising-from doc docs rising = rising-filter (leb doc) docs rising

pub rising-above : (doc : ℕ) (docs : List ℕ) → IsRising docs → IsRising (above doc docs)
unfolding above
rising-above doc docs rising = rising-filter (ltb doc) docs rising

pub rising-intersection : (left right : List ℕ) → IsRising left → IsRising (intersection left right)
unfolding intersection
rising-intersection left right rising = rising-filter (has right) left rising

pub rising-difference : (left right : List ℕ) → IsRising left → IsRising (difference left right)
unfolding difference
rising-difference left right rising = rising-filter (λ doc. not (has right doc)) left rising

pub rising-symmetric_difference : (left right : List ℕ) → IsRising left → IsRising (symmetric_difference left right)
unfolding symmetric_difference
rising-symmetric_difference left right rising = rising-union (difference left right) (difference right left) (rising-difference left right rising)

-- ---- two rising lists that have the same are one

not_again : (x : ℕ) (xs : List ℕ) (n : ℕ) → IsRising (x ∷ xs) → eqb n x ≡ true → has xs n ≡ false
not_again x xs n rising is = false_from_ne_true (has xs n) (λ there. no_circle x x (subst (λ (m : ℕ). x < m) (eqb-true n x is) (first_below x xs rising n there)) (subst (λ (m : ℕ). x < m) (eqb-true n x is) (first_below x xs rising n there)))

one_head : (x y : ℕ) (xs ys : List ℕ) → IsRising (x ∷ xs) → IsRising (y ∷ ys) → has (y ∷ ys) x ≡ true → has (x ∷ xs) y ≡ true → x ≡ y
one_head x y xs ys r s here there = elim (or_cases (eqb x y) (has ys x) (sym (has-cons y ys x) ∙ here)) [
  | inl is ↦ eqb-true x y is
  | inr above' ↦ elim (or_cases (eqb y x) (has xs y) (sym (has-cons x xs y) ∙ there)) [
    | inl is ↦ sym (eqb-true y x is)
    | inr below' ↦ absurd (no_circle x y (first_below y ys s x above') (first_below x xs r y below'))
  ]
]

one_rest : (x : ℕ) (xs ys : List ℕ) (n : ℕ) → IsRising (x ∷ xs) → IsRising (x ∷ ys) → has (x ∷ xs) n ≡ has (x ∷ ys) n → has xs n ≡ has ys n
one_rest x xs ys n r s h = same_rest (eqb n x) (has xs n) (has ys n) (sym (has-cons x xs n) ∙ h ∙ has-cons x ys n) (not_again x xs n r) (not_again x ys n s)

pub same_list : (xs ys : List ℕ) → IsRising xs → IsRising ys → ((n : ℕ) → has xs n ≡ has ys n) → xs ≡ ys
same_list [] [] r s h = refl
same_list [] (y ∷ ys) r s h = absurd (false≢true (sym (has-none y) ∙ h y ∙ has-first y ys))
same_list (x ∷ xs) [] r s h = absurd (false≢true (sym (has-none x) ∙ sym (h x) ∙ has-first x xs))
same_list (x ∷ xs) (y ∷ ys) r s h =
    let head : x ≡ y = one_head x y xs ys r s (sym (h x) ∙ has-first x xs) (h y ∙ has-first y ys) in
    let ys_rise : IsRising (x ∷ ys) = subst (λ (first : ℕ). IsRising (first ∷ ys)) (sym head) s in
    let rest : xs ≡ ys = same_list xs ys (rising_rest x xs r) (rising_rest y ys s) (λ n. one_rest x xs ys n r ys_rise (h n ∙ ap (λ (first : ℕ). has (first ∷ ys) n) (sym head))) in
    cc

-- ---- membership is std's

pub contains_from : (docs : List ℕ) (doc : ℕ) → has docs doc ≡ true → Contains docs doc
unfolding has
contains_from docs doc is =
    let found = Any-from_list_any (λ (other : ℕ). eqb doc other) docs is in
    let same : found.1 ≡ doc = sym (eqb-true doc found.1 found.4) in
    (found.0, found.2, subst (λ (d : ℕ). get_or docs found.0 d ≡ d) same found.3)

pub has-from_contains : (docs : List ℕ) (doc : ℕ) → Contains docs doc → has docs doc ≡ true
unfolding has
has-from_contains docs doc is = list_any_at (λ (other : ℕ). eqb doc other) docs is.0 doc is.1 (eq-eqb doc (get_or docs is.0 doc) (sym is.2))
