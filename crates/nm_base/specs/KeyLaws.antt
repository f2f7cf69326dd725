-- Items among items, and keys that are the same. For proofs alone: those of `nm_threads`, `nm_tables`, `nm_parts` and `nm_state`.
use Rattle.std.proofs.Common.{◌≡◌, ◌≢◌, refl, sym, ap, subst, ◌∙◌, ℕ, zero, suc, ◌<◌, Bool, true, false, cond, List, map, [], ◌∷◌, arith, inl, inr, ◌⊎◌, true≢false}
use Rattle.std.specs.Prelude.{Contains, Option, Some, None}
use Rattle.std.specs.List.{AllByRecursion, list_any}
use Rattle.std.specs.Option.{is_some}
use Rattle.std.specs.declared.cmp.Ordering.TheVariants.{Less, Equal, Greater}
use Rattle.std.specs.Cmp.{nat_cmp_is}
use Rattle.std.specs.Cmp.Lexicographic.{slice_cmp}
use Rattle.std.specs.Ordering.{nat_cmp, is_eq}
use Rattle.std.proofs.lemmas.Bool.{cases_order, or_cases, or_left, or_right, false_from_ne_true}
use Rattle.std.proofs.lemmas.Map.Text.{is_eq-slice_cmp}
use Rattle.std.proofs.lemmas.Slice.Eq.{bytes_eq-Decides}
use Rattle.nm_base.specs.Order.{same_text}

-- ---- items

pub Contains_there : {X : Type 0} (x : X) (xs : List X) (y : X) → Contains xs y → Contains (x ∷ xs) y
Contains_there x xs y (k, lt, is) = (suc k, (omega (arith, lt)), is)

pub Contains_first : {X : Type 0} (x : X) (xs : List X) → Contains (x ∷ xs) x
Contains_first x xs = (zero, (omega arith), refl)

pub Contains_cases : {X : Type 0} (x : X) (xs : List X) (y : X) → Contains (x ∷ xs) y → (x ≡ y) ⊎ Contains xs y
Contains_cases x xs y (zero, lt, is) = inl is
Contains_cases x xs y (suc k, lt, is) = inr (k, (omega (arith, lt)), is)

pub Contains_none : {X : Type 0} (y : X) → Contains [] y → ⊥
Contains_none y (k, lt, is) = omega (arith, lt)

pub Contains_map : {X Y : Type 0} (f : X → Y) (xs : List X) (x : X) → Contains xs x → Contains (map f xs) (f x)
Contains_map f [] x among = absurd (Contains_none x among)
Contains_map f (y ∷ xs) x among = elim (Contains_cases y xs x among) [
  | inl here ↦ subst (λ z. Contains (f y ∷ map f xs) (f z)) here (Contains_first (f y) (map f xs))
  | inr there ↦ Contains_there (f y) (map f xs) (f x) (Contains_map f xs x there)
]

pub Contains_from_map : {X Y : Type 0} (f : X → Y) (xs : List X) (y : Y) → Contains (map f xs) y → (x : X) × Contains xs x × (f x ≡ y)
Contains_from_map f [] y among = absurd (Contains_none y among)
Contains_from_map f (x ∷ xs) y among = elim (Contains_cases (f x) (map f xs) y among) [
  | inl here ↦ (x, Contains_first x xs, here)
  | inr there ↦ let one = Contains_from_map f xs y there in (one.0, Contains_there x xs one.0 one.1, one.2)
]

-- an item that passes a test
pub any_one : {X : Type 0} (p : X → Bool) (xs : List X) → list_any p xs ≡ true → (x : X) × Contains xs x × (p x ≡ true)
any_one p [] is = absurd (true≢false (sym is))
any_one p (x ∷ xs) is = elim (or_cases (p x) (list_any p xs) is) [
  | inl here ↦ (x, Contains_first x xs, here)
  | inr there ↦ let one = any_one p xs there in (one.0, Contains_there x xs one.0 one.1, one.2)
]

pub any_of : {X : Type 0} (p : X → Bool) (xs : List X) (x : X) → Contains xs x → p x ≡ true → list_any p xs ≡ true
any_of p [] x among here = absurd (Contains_none x among)
any_of p (y ∷ xs) x among here = elim (Contains_cases y xs x among) [
  | inl is ↦ or_left (p y) (list_any p xs) (ap p is ∙ here)
  | inr there ↦ or_right (p y) (list_any p xs) (any_of p xs x there here)
]

-- what holds of all holds of each
pub all_at : {X : Type 0} (P : X → Type 0) (xs : List X) → AllByRecursion P xs → (x : X) → Contains xs x → P x
all_at P [] all x among = absurd (Contains_none x among)
all_at P (y ∷ xs) all x among = elim (Contains_cases y xs x among) [ inl here ↦ subst P here all.0 | inr there ↦ all_at P xs all.1 x there ]

pub all_from : {X : Type 0} (P : X → Type 0) (xs : List X) → ((x : X) → Contains xs x → P x) → AllByRecursion P xs
all_from P [] each = tt
all_from P (x ∷ xs) each = (each x (Contains_first x xs), all_from P xs (λ y among. each y (Contains_there x xs y among)))

-- ---- texts

pub same_text_from : (a b : List ℕ) → same_text a b ≡ true → a ≡ b
same_text_from a b is = (bytes_eq-Decides a b).0 is

pub same_text_of : (a : List ℕ) → same_text a a ≡ true
same_text_of a = (bytes_eq-Decides a a).1 refl

pub text_same : (a b : List ℕ) → a ≡ b → same_text a b ≡ true
text_same a b is = ap (same_text a) (sym is) ∙ same_text_of a

pub text_other : (a b : List ℕ) → a ≢ b → same_text a b ≡ false
text_other a b not = false_from_ne_true (same_text a b) (λ is. not (same_text_from a b is))

pub same_id : (a b : List ℕ) → a ≡ b → is_eq (slice_cmp nat_cmp a b) ≡ true
same_id a b is = is_eq-slice_cmp a b ∙ text_same a b is

pub other_id : (a b : List ℕ) → a ≢ b → is_eq (slice_cmp nat_cmp a b) ≡ false
other_id a b not = is_eq-slice_cmp a b ∙ text_other a b not

cases_by : (a b : List ℕ) (test : Bool) → same_text a b ≡ test → (a ≡ b) ⊎ (a ≢ b)
cases_by a b true is = inl (same_text_from a b is)
cases_by a b false is = inr (λ same. true≢false (sym (text_same a b same) ∙ is))

pub cases_id : (a b : List ℕ) → (a ≡ b) ⊎ (a ≢ b)
cases_id a b = cases_by a b (same_text a b) refl

-- ---- numbers

pub less_is : (a b : ℕ) → a < b → nat_cmp a b ≡ Less
less_is a b lt = sym (nat_cmp_is a b Less lt)

pub greater_is : (a b : ℕ) → b < a → nat_cmp a b ≡ Greater
greater_is a b lt = sym (nat_cmp_is a b Greater lt)

pub equal_is : (a b : ℕ) → a ≡ b → nat_cmp a b ≡ Equal
equal_is a b is = sym (nat_cmp_is a b Equal is)

pub same_number : (a b : ℕ) → a ≡ b → is_eq (nat_cmp a b) ≡ true
same_number a b is = ap is_eq (equal_is a b is)

pub other_number : (a b : ℕ) → a ≢ b → is_eq (nat_cmp a b) ≡ false
other_number a b not = elim (cases_order a b) [ inl is ↦ absurd (not is) | inr (inl lt) ↦ ap is_eq (less_is a b lt) | inr (inr gt) ↦ ap is_eq (greater_is a b gt) ]

pub cases_number : (a b : ℕ) → (a ≡ b) ⊎ (a ≢ b)
cases_number a b = elim (cases_order a b) [ inl is ↦ inl is | inr (inl lt) ↦ inr (λ is. omega arith) | inr (inr gt) ↦ inr (λ is. omega arith) ]

pub number_from : (a b : ℕ) → is_eq (nat_cmp a b) ≡ true → a ≡ b
number_from a b is = elim (cases_number a b) [ inl same ↦ same | inr not ↦ absurd (true≢false (sym is ∙ other_number a b not)) ]

-- ---- what a choice gives

pub chosen : {A : Type 0} (test : Bool) (x y z : A) → test ≡ true → cond test x y ≡ z → x ≡ z
chosen true x y z is e = e
chosen false x y z is e = absurd (true≢false (sym is))

pub other : {A : Type 0} (test : Bool) (x y z : A) → test ≡ false → cond test x y ≡ z → y ≡ z
other true x y z is e = absurd (true≢false is)
other false x y z is e = e

-- ---- options

pub some_by : {V : Type 0} (o : Option V) → is_some o ≡ true → (x : V) × (o ≡ Some x)
some_by None is = absurd (true≢false (sym is))
some_by (Some x) is = (x, refl)
