-- What is left from a document on, and what a filter keeps. Cited by `cursor`, and by the lemmas of the other cursors.
use Rattle.std.proofs.Common.{◌≡◌, refl, sym, ap, subst, ◌∙◌, ℕ, ◌+◌, ◌<◌, ◌≤◌, Bool, true, false, cond, eqb, leb, List, [], ◌∷◌, length, Option, arith, inl, inr}
use Rattle.std.specs.Prelude.{◌&&◌, ◌||◌}
use Rattle.std.proofs.lemmas.Bool.{eqb-true, or_cases, le-leb, lt-leb}
use Rattle.std.proofs.lemmas.Bool.Decides.{nat_tests}
use Rattle.std.specs.List.{filter}
use Rattle.nm_cursor.specs.Sets.{IsRising, Takes, has, from}
use Rattle.nm_cursor.proofs.SetLemmas.{has-none, has-first, has-cons, has-from, first_below, rising_none, rising-from, same_list}

pub or_second : (a b : Bool) → b ≡ true → (a || b) ≡ true
or_second a b is = grind arith

later : (x : ℕ) (xs : List ℕ) (n : ℕ) → has xs n ≡ true → has (x ∷ xs) n ≡ true
later x xs n is = has-cons x xs n ∙ or_second (eqb n x) (has xs n) is

pub filter_all : (p : ℕ → Bool) (docs : List ℕ) → ((n : ℕ) → has docs n ≡ true → p n ≡ true) → filter p docs ≡ docs
filter_all p [] each = refl
filter_all p (x ∷ xs) each = rw (each x (has-first x xs)) (ap (λ rest. x ∷ rest) (filter_all p xs (λ n is. each n (later x xs n is))))

pub filter_none : (p : ℕ → Bool) (docs : List ℕ) → ((n : ℕ) → has docs n ≡ true → p n ≡ false) → filter p docs ≡ []
filter_none p [] each = refl
filter_none p (x ∷ xs) each = rw (each x (has-first x xs)) (filter_none p xs (λ n is. each n (later x xs n is)))

filter_cond : (b : Bool) (p q : ℕ → Bool) (x : ℕ) (xs : List ℕ) → filter q (cond b (x ∷ xs) xs) ≡ cond b (cond (q x) (x ∷ filter q xs) (filter q xs)) (filter q xs)
filter_cond true p q x xs = refl
filter_cond false p q x xs = refl

cond_cond : (b c : Bool) (x : ℕ) (xs : List ℕ) → cond b (cond c (x ∷ xs) xs) xs ≡ cond c (cond b (x ∷ xs) xs) xs
cond_cond true true x xs = refl
cond_cond true false x xs = refl
cond_cond false true x xs = refl
cond_cond false false x xs = refl

-- two filters, in either order
pub filters_swap : (p q : ℕ → Bool) (docs : List ℕ) → filter q (filter p docs) ≡ filter p (filter q docs)
filters_swap p q [] = refl
filters_swap p q (x ∷ xs) =
    filter_cond (p x) p q x (filter p xs)
    ∙ ap (λ rest. cond (p x) (cond (q x) (x ∷ rest) rest) rest) (filters_swap p q xs)
    ∙ cond_cond (p x) (q x) x (filter p (filter q xs))
    ∙ sym (filter_cond (q x) q p x (filter q xs))

pub from_none : (doc : ℕ) → from doc [] ≡ []
unfolding from
from_none doc = refl

pub from_zero : (docs : List ℕ) → from 0 docs ≡ docs
unfolding from
from_zero docs = filter_all (leb 0) docs (λ n is. le-leb 0 n (omega arith))

pub not_below : (x : ℕ) (xs : List ℕ) → IsRising (x ∷ xs) → (n : ℕ) → has (x ∷ xs) n ≡ true → x ≤ n
not_below x xs rising n is = elim (or_cases (eqb n x) (has xs n) (sym (has-cons x xs n) ∙ is)) [
  | inl here ↦ omega (arith, eqb-true n x here)
  | inr there ↦ omega (arith, first_below x xs rising n there)
]

pub next_le : (x y : ℕ) → x + 1 ≤ y → x ≤ y
next_le x y h = omega arith

pub weaker : (x y : ℕ) → x < y → x ≤ y
weaker x y h = omega arith

pub same_le : (n : ℕ) → n ≤ n
same_le n = omega arith

pub up_to : (doc x n : ℕ) → doc ≤ x → x ≤ n → doc ≤ n
up_to doc x n h g = omega arith

pub from_first : (doc x : ℕ) (xs : List ℕ) → IsRising (x ∷ xs) → doc ≤ x → from doc (x ∷ xs) ≡ x ∷ xs
unfolding from
from_first doc x xs rising h = filter_all (leb doc) (x ∷ xs) (λ n is. le-leb doc n (up_to doc x n h (not_below x xs rising n is)))

pub from_later : (doc x : ℕ) (xs : List ℕ) → x < doc → from doc (x ∷ xs) ≡ from doc xs
unfolding from
from_later doc x xs h = rw (lt-leb doc x h)

pub sought : (doc x : ℕ) (old new : List ℕ) → old ≡ x ∷ new → doc ≤ x → IsRising old → from doc old ≡ x ∷ new
sought doc x old new e h rising = ap (from doc) e ∙ from_first doc x new (subst IsRising e rising) h

pub skipped : (doc x : ℕ) (old new : List ℕ) → old ≡ x ∷ new → x < doc → from doc new ≡ from doc old
skipped doc x old new e h = sym (ap (from doc) e ∙ from_later doc x new h)

pub ended : (doc : ℕ) (old : List ℕ) → old ≡ [] → from doc old ≡ []
ended doc old e = ap (from doc) e ∙ from_none doc

pub from_rises : (doc x : ℕ) (old new : List ℕ) → from doc old ≡ x ∷ new → IsRising old → IsRising (x ∷ new)
from_rises doc x old new e rising = subst IsRising e (rising-from doc old rising)

length_cond : (b : Bool) (x : ℕ) (xs : List ℕ) (n : ℕ) → length xs ≤ n → length (cond b (x ∷ xs) xs) ≤ n + 1
length_cond true x xs n h = omega arith
length_cond false x xs n h = omega arith

filter_shorter : (p : ℕ → Bool) (docs : List ℕ) → length (filter p docs) ≤ length docs
filter_shorter p [] = omega arith
filter_shorter p (x ∷ xs) = omega (arith, length_cond (p x) x (filter p xs) (length xs) (filter_shorter p xs))

from_length : (doc : ℕ) (old : List ℕ) → length (from doc old) ≤ length old
unfolding from
from_length doc old = filter_shorter (leb doc) old

pub shorter : (doc x : ℕ) (old new : List ℕ) → from doc old ≡ x ∷ new → length new < length old
shorter doc x old new e = omega (arith, from_length doc old, ap length e)

pub at_from : (doc x : ℕ) (old new : List ℕ) → from doc old ≡ x ∷ new → (n : ℕ) → (has old n && leb doc n) ≡ (eqb n x || has new n)
at_from doc x old new e n = sym (has-from doc old n) ∙ ap (λ docs. has docs n) e ∙ has-cons x new n

pub at_end : (doc : ℕ) (old : List ℕ) → from doc old ≡ [] → (n : ℕ) → (has old n && leb doc n) ≡ false
at_end doc old e n = sym (has-from doc old n) ∙ ap (λ docs. has docs n) e ∙ has-none n

pub nothing : (docs : List ℕ) → IsRising docs → ((n : ℕ) → has docs n ≡ false) → docs ≡ []
nothing docs rising each = same_list docs [] rising rising_none (λ n. each n ∙ sym (has-none n))

-- what was sought is not below what it was sought by
found_by : (doc x : ℕ) (b c : Bool) → (b && leb doc x) ≡ (eqb x x || c) → doc ≤ x
found_by doc x b c h = grind (arith, nat_tests)

pub found_above : (doc x : ℕ) (old new : List ℕ) → from doc old ≡ x ∷ new → doc ≤ x
found_above doc x old new e = found_by doc x (has old x) (has new x) (at_from doc x old new e x)

-- what is left is not below 0
pub taken_of_all : (old new : List ℕ) (taken : Option ℕ) → Takes (from 0 old) taken new → Takes old taken new
taken_of_all old new taken takes = subst (λ (docs : List ℕ). Takes docs taken new) (from_zero old) takes
