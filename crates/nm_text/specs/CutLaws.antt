-- The first part of a list that is cut, and what is left after it. For proofs alone: those of `nm_header` and `nm_mime` too.
use Rattle.std.proofs.Common.{◌≡◌, ℕ, zero, suc, ◌-◌, ◌≤◌, List, [], ◌∷◌, length, take, drop, refl, ap, arith, length-drop}
use Rattle.nm_text.specs.Cuts.{cut, cut_upto}

-- the bound counts for nothing where it is large enough
cut_upto-same : (n m : ℕ) (more : ℕ → List ℕ → ℕ) (xs : List ℕ) → length xs ≤ n → length xs ≤ m → cut_upto n more xs ≡ cut_upto m more xs
cut_upto-same zero zero more xs h k = refl
cut_upto-same zero (suc m) more [] h k = refl
cut_upto-same zero (suc m) more (x ∷ xs) h k = absurd (omega arith)
cut_upto-same (suc n) zero more [] h k = refl
cut_upto-same (suc n) zero more (x ∷ xs) h k = absurd (omega arith)
cut_upto-same (suc n) (suc m) more [] h k = refl
cut_upto-same (suc n) (suc m) more (x ∷ xs) h k =
    let left : length (drop (more x xs) xs) ≡ length xs - more x xs = length-drop (more x xs) xs in
    ap (λ rest. (x ∷ take (more x xs) xs) ∷ rest) (cut_upto-same n m more (drop (more x xs) xs) (omega arith) (omega arith))

pub cut-nil : (more : ℕ → List ℕ → ℕ) → cut more [] ≡ []
unfolding cut
cut-nil more = refl

pub cut-cons : (more : ℕ → List ℕ → ℕ) (x : ℕ) (xs : List ℕ) → cut more (x ∷ xs) ≡ (x ∷ take (more x xs) xs) ∷ cut more (drop (more x xs) xs)
unfolding cut
cut-cons more x xs =
    let left : length (drop (more x xs) xs) ≡ length xs - more x xs = length-drop (more x xs) xs in
    ap (λ rest. (x ∷ take (more x xs) xs) ∷ rest) (cut_upto-same (length xs) (length (drop (more x xs) xs)) more (drop (more x xs) xs) (omega arith) (omega arith))
