-- Places: what stays true of them as results are put in and taken out.
-- For the proofs of `put`, `take_or_run`, `in_order` and others.
use Rattle.std.proofs.Common.{◌≡◌, refl, sym, ap, subst, ◌∙◌, ℕ, ◌+◌, ◌<◌, zero, suc, List, [], ◌∷◌, ◌++◌, length, take, set, Option, Some, None, replicate, inl, inr, ◌⊎◌, arith, add-one}
use Rattle.std.proofs.Math.ListN.{length-set}
use Rattle.std.specs.List.{AllZip, slice_get}
use Rattle.std.proofs.lemmas.List.{length-replicate}
use Rattle.std.proofs.lemmas.Option.{none-some, same_Some}
use Rattle.nm_workers.specs.Results.{GivesAt, FitPlaces}

-- an empty place holds nothing
get-replicate : {X : Type 0} (n i : ℕ) (value : X) → slice_get (replicate n None) i ≡ Some (Some value) → ⊥
get-replicate zero i value there = none-some (Some value) there
get-replicate (suc n) zero value there = none-some value (same_Some None (Some value) there)
get-replicate (suc n) (suc i) value there = get-replicate n i value there

-- what is in a place after a change was put there or was there before
get-set : {X : Type 0} (xs : List X) (i j : ℕ) (y x : X) → slice_get (set xs i y) j ≡ Some x → ((j ≡ i) × (y ≡ x)) ⊎ (slice_get xs j ≡ Some x)
get-set [] i j y x there = inr there
get-set (z ∷ zs) zero zero y x there = inl (refl, same_Some y x there)
get-set (z ∷ zs) zero (suc j) y x there = inr there
get-set (z ∷ zs) (suc i) zero y x there = inr there
get-set (z ∷ zs) (suc i) (suc j) y x there = elim (get-set zs i j y x there) [ inl here ↦ inl (ap suc here.0, here.1) | inr old ↦ inr old ]

-- a result that fits is that of an input
inside : {A B : Type 0} (gives : A → B → Type 0) (inputs : List A) (at : ℕ) (value : B) → GivesAt gives inputs at value → at < length inputs
inside gives [] at value given = absurd given
inside gives (x ∷ xs) zero value given = omega arith
inside gives (x ∷ xs) (suc at) value given = omega (arith, inside gives xs at value given)

-- places without results fit
pub empty_places : {A B : Type 0} (gives : A → B → Type 0) (inputs : List A) → FitPlaces gives inputs (replicate (length inputs) None)
empty_places {A} {B} gives inputs = record {
  long = length-replicate (length inputs) None;
  each = λ at value there. absurd (get-replicate (length inputs) at value there);
}

-- a result that fits may be put in
pub put_place : {A B : Type 0} (gives : A → B → Type 0) (inputs : List A) (places : List (Option B)) (at : ℕ) (value : B) → GivesAt gives inputs at value → FitPlaces gives inputs places → FitPlaces gives inputs (set places at (Some value))
put_place gives inputs places at value given fit = record {
  long = length-set places at (Some value) ∙ fit.long;
  each = λ i v there.
      elim (get-set places at i (Some value) (Some v) there) [
        | inl here ↦ subst (λ n. GivesAt gives inputs n v) (sym here.0) (subst (λ w. GivesAt gives inputs at w) (same_Some value v here.1) given)
        | inr old ↦ fit.each i v old
      ];
}

-- any result may be taken out
pub take_place : {A B : Type 0} (gives : A → B → Type 0) (inputs : List A) (places : List (Option B)) (at : ℕ) → FitPlaces gives inputs places → FitPlaces gives inputs (set places at None)
take_place gives inputs places at fit = record {
  long = length-set places at None ∙ fit.long;
  each = λ i v there.
      elim (get-set places at i None (Some v) there) [
        | inl here ↦ absurd (none-some v here.1)
        | inr old ↦ fit.each i v old
      ];
}

-- an input that has a result has a place
pub has_place : {A B : Type 0} (gives : A → B → Type 0) (inputs : List A) (places : List (Option B)) (at : ℕ) (value : B) → GivesAt gives inputs at value → FitPlaces gives inputs places → at < length places
has_place gives inputs places at value given fit = rw fit.long (inside gives inputs at value given)

more : {A B : Type 0} (gives : A → B → Type 0) (inputs : List A) (results : List B) (at : ℕ) (value : B) → AllZip gives (take at inputs) results → GivesAt gives inputs at value → AllZip gives (take (suc at) inputs) (results ++ value ∷ [])
more gives [] results at value so_far given = absurd given
more gives (x ∷ xs) [] zero value so_far given = (given, tt)
more gives (x ∷ xs) (r ∷ rs) zero value so_far given = absurd so_far
more gives (x ∷ xs) [] (suc at) value so_far given = absurd so_far
more gives (x ∷ xs) (r ∷ rs) (suc at) value so_far given = (so_far.0, more gives xs rs at value so_far.1 given)

-- one result more, in order
pub one_more : {A B : Type 0} (gives : A → B → Type 0) (inputs : List A) (results : List B) (at : ℕ) (value : B) → AllZip gives (take at inputs) results → GivesAt gives inputs at value → AllZip gives (take (at + 1) inputs) (results ++ value ∷ [])
one_more gives inputs results at value so_far given = subst (λ n. AllZip gives (take n inputs) (results ++ value ∷ [])) (sym (add-one at)) (more gives inputs results at value so_far given)
