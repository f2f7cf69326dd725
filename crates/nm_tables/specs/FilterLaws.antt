-- What a filter leaves of a list. For proofs alone: those of `forget_mail` and `nm_parts`.
use Rattle.std.proofs.Common.{◌≡◌, refl, sym, ap, subst, ◌∙◌, Bool, true, false, cond, List, [], ◌∷◌, inl, inr, ◌⊎◌, true≢false}
use Rattle.std.specs.Prelude.{Contains}
use Rattle.std.specs.List.{filter}
use Rattle.nm_base.specs.KeyLaws.{Contains_first, Contains_there, Contains_cases, Contains_none}

in_by : {X : Type 0} (x y : X) (rest : List X) (test : Bool) → Contains (cond test (x ∷ rest) rest) y → ((test ≡ true) × (x ≡ y)) ⊎ Contains rest y
in_by x y rest true among = elim (Contains_cases x rest y among) [ inl here ↦ inl (refl, here) | inr there ↦ inr there ]
in_by x y rest false among = inr among

pub from_filter : {X : Type 0} (p : X → Bool) (xs : List X) (y : X) → Contains (filter p xs) y → Contains xs y × (p y ≡ true)
from_filter p [] y among = absurd (Contains_none y among)
from_filter p (x ∷ xs) y among = elim (in_by x y (filter p xs) (p x) among) [
  | inl here ↦ (subst (λ z. Contains (x ∷ xs) z) here.1 (Contains_first x xs), ap p (sym here.1) ∙ here.0)
  | inr there ↦ let rest = from_filter p xs y there in (Contains_there x xs y rest.0, rest.1)
]

first_in : {X : Type 0} (x : X) (rest : List X) (test : Bool) → test ≡ true → Contains (cond test (x ∷ rest) rest) x
first_in x rest true is = Contains_first x rest
first_in x rest false is = absurd (true≢false (sym is))

later_in : {X : Type 0} (x y : X) (rest : List X) (test : Bool) → Contains rest y → Contains (cond test (x ∷ rest) rest) y
later_in x y rest true among = Contains_there x rest y among
later_in x y rest false among = among

pub in_filter : {X : Type 0} (p : X → Bool) (xs : List X) (y : X) → Contains xs y → p y ≡ true → Contains (filter p xs) y
in_filter p [] y among is = absurd (Contains_none y among)
in_filter p (x ∷ xs) y among is = elim (Contains_cases x xs y among) [
  | inl here ↦ subst (λ z. Contains (filter p (x ∷ xs)) z) here (first_in x (filter p xs) (p x) (ap p here ∙ is))
  | inr there ↦ later_in x y (filter p xs) (p x) (in_filter p xs y there is)
]

-- tests that agree along a list leave the same
pub filter_same : {X : Type 0} (p q : X → Bool) (xs : List X) → ((x : X) → Contains xs x → p x ≡ q x) → filter p xs ≡ filter q xs
filter_same p q [] agree = refl
filter_same p q (x ∷ xs) agree =
    let first : p x ≡ q x = agree x (Contains_first x xs) in
    let rest : filter p xs ≡ filter q xs = filter_same p q xs (λ y among. agree y (Contains_there x xs y among)) in (λ i. cond (first i) (x ∷ rest i) (rest i))
