-- What passes a test, and what is left of lists. For the proofs of `remove_dead` and `remove_numbers`.
use Rattle.std.proofs.Common.{◌≡◌, refl, sym, ap, subst, ◌∙◌, Bool, true, false, cond, List, [], ◌∷◌, map, inl, inr}
use Rattle.std.specs.Prelude.{Contains}
use Rattle.std.specs.List.{filter}
use Rattle.nm_base.specs.KeyLaws.{Contains_there, Contains_first, Contains_cases, Contains_none}

module _ {X : Type 0} (p : X → Bool) where
  pub filter_yes : (x : X) (xs : List X) → p x ≡ true → filter p (x ∷ xs) ≡ x ∷ filter p xs
  filter_yes x xs is = ap (λ test. cond test (x ∷ filter p xs) (filter p xs)) is

  pub filter_no : (x : X) (xs : List X) → p x ≡ false → filter p (x ∷ xs) ≡ filter p xs
  filter_no x xs is = ap (λ test. cond test (x ∷ filter p xs) (filter p xs)) is

  there_by : (y : X) (xs : List X) (x : X) (test : Bool) → Contains (filter p xs) x → Contains (cond test (y ∷ filter p xs) (filter p xs)) x
  there_by y xs x true among = Contains_there y (filter p xs) x among
  there_by y xs x false among = among

  pub Contains_filter : (xs : List X) (x : X) → Contains xs x → p x ≡ true → Contains (filter p xs) x
  Contains_filter [] x among is = absurd (Contains_none x among)
  Contains_filter (y ∷ xs) x among is = elim (Contains_cases y xs x among) [
    | inl here ↦ subst (λ all. Contains all x) (sym (filter_yes y xs (ap p here ∙ is))) (subst (λ z. Contains (z ∷ filter p xs) x) (sym here) (Contains_first x (filter p xs)))
    | inr there ↦ there_by y xs x (p y) (Contains_filter xs x there is)
  ]

  from_by : (y : X) (xs : List X) (x : X) (test : Bool) → p y ≡ test → (Contains (filter p xs) x → Contains xs x × (p x ≡ true)) → Contains (cond test (y ∷ filter p xs) (filter p xs)) x → Contains (y ∷ xs) x × (p x ≡ true)
  from_by y xs x true is more among = elim (Contains_cases y (filter p xs) x among) [
    | inl here ↦ (subst (λ z. Contains (z ∷ xs) x) (sym here) (Contains_first x xs), ap p (sym here) ∙ is)
    | inr there ↦ let old = more there in (Contains_there y xs x old.0, old.1)
  ]
  from_by y xs x false is more among = let old = more among in (Contains_there y xs x old.0, old.1)

  pub Contains_from_filter : (xs : List X) (x : X) → Contains (filter p xs) x → Contains xs x × (p x ≡ true)
  Contains_from_filter [] x among = absurd (Contains_none x among)
  Contains_from_filter (y ∷ xs) x among = from_by y xs x (p y) refl (Contains_from_filter xs x) among

  pub filter_all : (xs : List X) → ((x : X) → Contains xs x → p x ≡ true) → filter p xs ≡ xs
  filter_all [] all = refl
  filter_all (x ∷ xs) all = filter_yes x xs (all x (Contains_first x xs)) ∙ ap (λ more. x ∷ more) (filter_all xs (λ y among. all y (Contains_there x xs y among)))

  pub filter_none : (xs : List X) → ((x : X) → Contains xs x → p x ≡ false) → filter p xs ≡ []
  filter_none [] all = refl
  filter_none (x ∷ xs) all = filter_no x xs (all x (Contains_first x xs)) ∙ filter_none xs (λ y among. all y (Contains_there x xs y among))

-- tests that agree at each item keep the same
pub filter_among : {X : Type 0} (p q : X → Bool) (xs : List X) → ((x : X) → Contains xs x → p x ≡ q x) → filter p xs ≡ filter q xs
filter_among p q [] agree = refl
filter_among p q (x ∷ xs) agree =
    ap (λ test. cond test (x ∷ filter p xs) (filter p xs)) (agree x (Contains_first x xs))
    ∙ ap (λ more. cond (q x) (x ∷ more) more) (filter_among p q xs (λ y among. agree y (Contains_there x xs y among)))

-- a test of the crash states is one of the items
map_by : {X Y : Type 0} (f : X → Y) (p : Y → Bool) (q : X → Bool) (x : X) (xs : List X) (test : Bool) → q x ≡ test → p (f x) ≡ q x → filter p (map f xs) ≡ map f (filter q xs) → filter p (map f (x ∷ xs)) ≡ map f (filter q (x ∷ xs))
map_by f p q x xs true is agree more = filter_yes p (f x) (map f xs) (agree ∙ is) ∙ ap (λ all. f x ∷ all) more ∙ sym (ap (map f) (filter_yes q x xs is))
map_by f p q x xs false is agree more = filter_no p (f x) (map f xs) (agree ∙ is) ∙ more ∙ sym (ap (map f) (filter_no q x xs is))

pub filter_map_among : {X Y : Type 0} (f : X → Y) (p : Y → Bool) (q : X → Bool) (xs : List X) → ((x : X) → Contains xs x → p (f x) ≡ q x) → filter p (map f xs) ≡ map f (filter q xs)
filter_map_among f p q [] agree = refl
filter_map_among f p q (x ∷ xs) agree = map_by f p q x xs (q x) refl (agree x (Contains_first x xs)) (filter_map_among f p q xs (λ y among. agree y (Contains_there x xs y among)))

-- what passes one test and then another passes both
twice_by : {X : Type 0} (p q r : X → Bool) (x : X) (xs : List X) (test other : Bool) → q x ≡ test → p x ≡ other → r x ≡ cond (q x) (p x) false → filter p (filter q xs) ≡ filter r xs → filter p (filter q (x ∷ xs)) ≡ filter r (x ∷ xs)
twice_by p q r x xs true true q_is p_is r_is more =
    ap (filter p) (filter_yes q x xs q_is) ∙ filter_yes p x (filter q xs) p_is ∙ ap (λ all. x ∷ all) more ∙ sym (filter_yes r x xs (r_is ∙ ap (λ test. cond test (p x) false) q_is ∙ p_is))
twice_by p q r x xs true false q_is p_is r_is more = ap (filter p) (filter_yes q x xs q_is) ∙ filter_no p x (filter q xs) p_is ∙ more ∙ sym (filter_no r x xs (r_is ∙ ap (λ test. cond test (p x) false) q_is ∙ p_is))
twice_by p q r x xs false other q_is p_is r_is more = ap (filter p) (filter_no q x xs q_is) ∙ more ∙ sym (filter_no r x xs (r_is ∙ ap (λ test. cond test (p x) false) q_is))

pub filter_twice : {X : Type 0} (p q r : X → Bool) (xs : List X) → ((x : X) → r x ≡ cond (q x) (p x) false) → filter p (filter q xs) ≡ filter r xs
filter_twice p q r [] both = refl
filter_twice p q r (x ∷ xs) both = twice_by p q r x xs (q x) (p x) refl refl (both x) (filter_twice p q r xs both)
