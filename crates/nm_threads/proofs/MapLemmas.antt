-- Look-ups in the maps of labels. For `MemberLemmas`, `MergeLemmas`, `NumberLemmas` and others.
use Rattle.std.proofs.Common.{◌≡◌, ◌≢◌, refl, sym, ap, ◌∙◌, ℕ, ◌<◌, Bool, true, false, List, [], ◌∷◌, ◌++◌, map, inl, inr, true≢false}
use Rattle.std.specs.Prelude.{Contains, Some, None, Option}
use Rattle.std.specs.Borrow.{Bor}
use Rattle.std.specs.Option.{is_some, option_copied}
use Rattle.std.specs.BTreeMap.{insert_entry}
use Rattle.std.specs.Cmp.Lexicographic.{slice_cmp}
use Rattle.std.specs.Ordering.{nat_cmp, ordering_then, is_eq}
use Rattle.std.proofs.lemmas.Bool.{cases_order}
use Rattle.std.proofs.lemmas.Map.Text.{is_eq-slice_cmp}
use Rattle.nm_threads.specs.Maps.{pair_cmp}
use Rattle.nm_base.specs.KeyLaws.{Contains_first, Contains_there, equal_is, greater_is, less_is, other_number, same_number, same_text_from}

pub other_id : (a b : List ℕ) → a ≢ b → (test : Bool) → is_eq (slice_cmp nat_cmp a b) ≡ test → test ≡ false
other_id a b not true is = absurd (not (same_text_from a b (sym (is_eq-slice_cmp a b) ∙ is)))
other_id a b not false is = refl

pub same_pair : (g n h m : ℕ) → g ≡ h → n ≡ m → is_eq (pair_cmp (g, n) (h, m)) ≡ true
same_pair g n h m first second = ap (λ answer. is_eq (ordering_then answer (nat_cmp n m))) (equal_is g h first) ∙ same_number n m second

pub other_second : (g n h m : ℕ) → n ≢ m → is_eq (pair_cmp (g, n) (h, m)) ≡ false
other_second g n h m not = elim (cases_order g h) [
  | inl is ↦ ap (λ answer. is_eq (ordering_then answer (nat_cmp n m))) (equal_is g h is) ∙ other_number n m not
  | inr (inl lt) ↦ ap (λ answer. is_eq (ordering_then answer (nat_cmp n m))) (less_is g h lt)
  | inr (inr gt) ↦ ap (λ answer. is_eq (ordering_then answer (nat_cmp n m))) (greater_is g h gt)
]

pub other_first : (g n h m : ℕ) → g ≢ h → is_eq (pair_cmp (g, n) (h, m)) ≡ false
other_first g n h m not = elim (cases_order g h) [
  | inl is ↦ absurd (not is)
  | inr (inl lt) ↦ ap (λ answer. is_eq (ordering_then answer (nat_cmp n m))) (less_is g h lt)
  | inr (inr gt) ↦ ap (λ answer. is_eq (ordering_then answer (nat_cmp n m))) (greater_is g h gt)
]

-- an entry above all others is the last
pub pushed_entry : {V : Type 0} (es : List (ℕ × V)) (key : ℕ) (value : V) → ((n : ℕ) (x : V) → Contains es (n, x) → n < key) → insert_entry nat_cmp es key value ≡ es ++ (key, value) ∷ []
pushed_entry [] key value below = refl
pushed_entry (e ∷ es) key value below =
    rw (greater_is key e.0 (below e.0 e.1 (Contains_first e es))) (ap (λ more. e ∷ more) (pushed_entry es key value (λ n x among. below n x (Contains_there e es (n, x) among))))

-- what agrees at each item of a list makes one list
pub map_among : {X Y : Type 0} (f g : X → Y) (xs : List X) → ((x : X) → Contains xs x → f x ≡ g x) → map f xs ≡ map g xs
map_among f g [] agree = refl
map_among f g (x ∷ xs) agree = rw (agree x (Contains_first x xs)) (ap (λ more. g x ∷ more) (map_among f g xs (λ y among. agree y (Contains_there x xs y among))))

-- ---- what a look-up answered

pub copied_some : {V : Type 0} (r : Option (Bor V)) → is_some (option_copied r) ≡ is_some r
copied_some None = refl
copied_some (Some x) = refl

pub none_by : {V : Type 0} (o : Option V) → is_some o ≡ false → o ≡ None
none_by None is = refl
none_by (Some x) is = absurd (true≢false is)
