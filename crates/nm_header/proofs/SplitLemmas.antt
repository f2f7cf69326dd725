-- The first id_text of a text that is cut at certain characters, and what is left after it.
-- For the proofs of `spaced`, `add_id`, `ids` and others.
use Rattle.std.proofs.Common.{◌≡◌, ℕ, ◌+◌, ◌<◌, ◌≤◌, Bool, true, false, cond, not, List, [], ◌∷◌, Some, None, length, take, drop, ltb, refl, ap, arith}
use Rattle.std.specs.Prelude.{position, IsUtf8}
use Rattle.std.specs.Str.{IsCharBoundary}
use Rattle.std.specs.List.{slice_split, position_or_len, onto_first}
use Rattle.std.proofs.lemmas.Bool.{ltb-true, ltb-false}
use Rattle.std.proofs.lemmas.List.Splits.{slice_split_first}
use Rattle.std.proofs.lemmas.List.Quantifiers.{position-Some}
use Rattle.std.proofs.lemmas.Str.{IsCharBoundary-before_ascii, IsCharBoundary-after_ascii}
use Rattle.std.proofs.lemmas.Option.{cond_some}

none_of : (b : Bool) (n : ℕ) → cond b (Some n) None ≡ None → b ≡ false
none_of true n e = absurd (cc)
none_of false n e = refl

-- the place that `position` gives is how many items do not pass before it
place_of : (p : ℕ → Bool) (xs : List ℕ) (i : ℕ) → position p xs ≡ Some i → (position_or_len p xs < length xs) × (position_or_len p xs ≡ i)
place_of p xs i e =
    let f = cond_some (ltb (position_or_len p xs) (length xs)) (position_or_len p xs) i e in
    (ltb-true _ _ f.0, f.1)

no_place_of : (p : ℕ → Bool) (xs : List ℕ) → position p xs ≡ None → length xs ≤ position_or_len p xs
no_place_of p xs e = ltb-false _ _ (none_of _ _ e)

-- up to the first item that passes it is one id_text, and the rest is split likewise
pub split_at : (p : ℕ → Bool) (xs : List ℕ) (i : ℕ) → position p xs ≡ Some i → slice_split p xs ≡ take i xs ∷ slice_split p (drop (i + 1) xs)
split_at p xs i e =
    let f = place_of p xs i e in
    let whole = slice_split_first p xs 0 f.0 in
    rw f.1 at whole

split_none_if : (p : ℕ → Bool) (xs : List ℕ) → length xs ≤ position_or_len p xs → slice_split p xs ≡ xs ∷ []
split_none_if p [] e = refl
split_none_if p (x ∷ xs) e =
    elim (p x) as (λ b. length (x ∷ xs) ≤ cond (not b) (1 + position_or_len p xs) 0 → cond b ([] ∷ slice_split p xs) (onto_first x (slice_split p xs)) ≡ (x ∷ xs) ∷ []) [
      | true ↦ λ h. absurd (omega arith)
      | false ↦ λ h. ap (onto_first x) (split_none_if p xs (omega arith))
    ] e

-- where no item passes there is one id_text
pub split_none : (p : ℕ → Bool) (xs : List ℕ) → position p xs ≡ None → slice_split p xs ≡ xs ∷ []
split_none p xs e = split_none_if p xs (no_place_of p xs e)

-- a text may be cut before and after an ASCII character
module _ (p : ℕ → Bool) (ascii : (b : ℕ) → p b ≡ true → b < 128) where
  pub boundary_before : (xs : List ℕ) (i : ℕ) → position p xs ≡ Some i → IsCharBoundary xs i
  boundary_before xs i e = let h = position-Some p xs i 0 e in IsCharBoundary-before_ascii xs i h.0 (ascii _ h.1)

  pub boundary_after : (xs : List ℕ) (i : ℕ) → IsUtf8 xs → position p xs ≡ Some i → IsCharBoundary xs (i + 1)
  boundary_after xs i u e = let h = position-Some p xs i 0 e in IsCharBoundary-after_ascii xs i u h.0 (ascii _ h.1)
