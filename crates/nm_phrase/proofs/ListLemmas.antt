-- What a list has, by recursion over it. Cited by `EndLemmas` and `FoundLemmas`.
use Rattle.std.proofs.Common.{◌≡◌, ℕ, zero, suc, ◌⊎◌, inl, inr, ◌<◌, Bool, true, false, cond, Some, List, [], ◌∷◌, ◌++◌, length, get_or, map, slice_get, refl, sym, ap, subst, ◌∙◌, arith}
use Rattle.std.specs.List.{Contains, filter, flat_map, list_any}
use Rattle.std.proofs.lemmas.Bool.{or_cases, or_left, or_right, false≢true}
use Rattle.std.proofs.lemmas.Option.{get_or_from_slice_get, slice_get_within}

abbrev pub In : {X : Type 0} → X → List X → Type 0
In x [] = ⊥
In x (y ∷ ys) = (x ≡ y) ⊎ In x ys

pub contained : {X : Type 0} (x : X) (xs : List X) → In x xs → Contains xs x
contained x [] h = absurd h
contained x (y ∷ ys) h = elim h [
  | inl e ↦ (0, omega arith, sym e)
  | inr r ↦ let c = contained x ys r in (suc c.0, omega (arith, c.1), c.2)
]

pub has_it : {X : Type 0} (x : X) (xs : List X) (k : ℕ) → k < length xs → get_or xs k x ≡ x → In x xs
has_it x [] k less e = absurd (omega (arith, less))
has_it x (y ∷ ys) zero less e = inl (sym e)
has_it x (y ∷ ys) (suc k) less e = inr (has_it x ys k (omega (arith, less)) e)

pub in_from : {X : Type 0} (x : X) (xs : List X) → Contains xs x → In x xs
in_from x xs c = has_it x xs c.0 c.1 c.2

filter_case : {X : Type 0} (p : X → Bool) (x y : X) (ys : List X) (b : Bool) → p y ≡ b → In x (cond b (y ∷ filter p ys) (filter p ys)) → (In x (filter p ys) → In x ys × (p x ≡ true)) → In x (y ∷ ys) × (p x ≡ true)
filter_case p x y ys true e h rest = elim h [
  | inl same ↦ (inl same, ap p same ∙ e)
  | inr r ↦ let q = rest r in (inr q.0, q.1)
]
filter_case p x y ys false e h rest = let q = rest h in (inr q.0, q.1)

pub in_filtered : {X : Type 0} (p : X → Bool) (x : X) (xs : List X) → In x (filter p xs) → In x xs × (p x ≡ true)
in_filtered p x [] h = absurd h
in_filtered p x (y ∷ ys) h = filter_case p x y ys (p y) refl h (in_filtered p x ys)

kept_case : {X : Type 0} (x y : X) (ys : List X) (b : Bool) → In x ys → In x (cond b (y ∷ ys) ys)
kept_case x y ys true h = inr h
kept_case x y ys false h = h

pub in_filter : {X : Type 0} (p : X → Bool) (x : X) (xs : List X) → In x xs → p x ≡ true → In x (filter p xs)
in_filter p x [] h is = absurd h
in_filter p x (y ∷ ys) h is = elim h [
  | inl e ↦ let here : p y ≡ true = ap p (sym e) ∙ is in rw here (inl e)
  | inr r ↦ kept_case x y (filter p ys) (p y) (in_filter p x ys r is)
]

pub in_map : {X Y : Type 0} (f : X → Y) (x : X) (xs : List X) → In x xs → In (f x) (map f xs)
in_map f x [] h = absurd h
in_map f x (y ∷ ys) h = elim h [ inl e ↦ inl (ap f e) | inr r ↦ inr (in_map f x ys r) ]

pub in_mapped : {X Y : Type 0} (f : X → Y) (y : Y) (xs : List X) → In y (map f xs) → (x : X) × In x xs × (f x ≡ y)
in_mapped f y [] h = absurd h
in_mapped f y (x ∷ xs) h = elim h [
  | inl e ↦ (x, inl refl, sym e)
  | inr r ↦ let p = in_mapped f y xs r in (p.0, inr p.1, p.2)
]

pub any_in : {X : Type 0} (p : X → Bool) (xs : List X) → list_any p xs ≡ true → (x : X) × In x xs × (p x ≡ true)
any_in p [] h = absurd (false≢true h)
any_in p (x ∷ xs) h = elim (or_cases (p x) (list_any p xs) h) [
  | inl here ↦ (x, inl refl, here)
  | inr later ↦ let q = any_in p xs later in (q.0, inr q.1, q.2)
]

pub any_from_in : {X : Type 0} (p : X → Bool) (x : X) (xs : List X) → In x xs → p x ≡ true → list_any p xs ≡ true
any_from_in p x [] h is = absurd h
any_from_in p x (y ∷ ys) h is = elim h [
  | inl e ↦ or_left (p y) (list_any p ys) (ap p (sym e) ∙ is)
  | inr r ↦ or_right (p y) (list_any p ys) (any_from_in p x ys r is)
]

pub in_slice : {X : Type 0} (x : X) (xs : List X) (k : ℕ) → slice_get xs k ≡ Some x → In x xs
in_slice x xs k there = has_it x xs k (slice_get_within xs k x there) (get_or_from_slice_get xs k x x there)

pub slice_of : {X : Type 0} (x : X) (xs : List X) → In x xs → (k : ℕ) × (slice_get xs k ≡ Some x)
slice_of x [] h = absurd h
slice_of x (y ∷ ys) h = elim h [
  | inl e ↦ (0, ap Some (sym e))
  | inr r ↦ let p = slice_of x ys r in (suc p.0, p.1)
]

-- two tests that hold alike are one
pub same_test : {P : Type 0} (a b : Bool) → (a ≡ true → P) → (P → a ≡ true) → (b ≡ true → P) → (P → b ≡ true) → a ≡ b
same_test true b f g h k = sym (k (f refl))
same_test false true f g h k = g (h refl)
same_test false false f g h k = refl

in_left : {X : Type 0} (x : X) (xs ys : List X) → In x xs → In x (xs ++ ys)
in_left x [] ys h = absurd h
in_left x (z ∷ xs) ys h = elim h [ inl e ↦ inl e | inr r ↦ inr (in_left x xs ys r) ]

in_right : {X : Type 0} (x : X) (xs ys : List X) → In x ys → In x (xs ++ ys)
in_right x [] ys h = h
in_right x (z ∷ xs) ys h = inr (in_right x xs ys h)

in_split : {X : Type 0} (x : X) (xs ys : List X) → In x (xs ++ ys) → In x xs ⊎ In x ys
in_split x [] ys h = inr h
in_split x (z ∷ xs) ys h = elim h [
  | inl e ↦ inl (inl e)
  | inr r ↦ elim (in_split x xs ys r) [ inl a ↦ inl (inr a) | inr b ↦ inr b ]
]

pub in_flat_map : {X Y : Type 0} (f : X → List Y) (x : X) (y : Y) (xs : List X) → In x xs → In y (f x) → In y (flat_map f xs)
in_flat_map f x y [] h i = absurd h
in_flat_map {X} f x y (z ∷ zs) h i = elim h [
  | inl e ↦ in_left y (f z) (flat_map f zs) (subst (λ (w : X). In y (f w)) e i)
  | inr r ↦ in_right y (f z) (flat_map f zs) (in_flat_map f x y zs r i)
]

pub in_flat_mapped : {X Y : Type 0} (f : X → List Y) (y : Y) (xs : List X) → In y (flat_map f xs) → (x : X) × In x xs × In y (f x)
in_flat_mapped f y [] h = absurd h
in_flat_mapped f y (x ∷ xs) h = elim (in_split y (f x) (flat_map f xs) h) [
  | inl a ↦ (x, inl refl, a)
  | inr b ↦ let p = in_flat_mapped f y xs b in (p.0, inr p.1, p.2)
]
