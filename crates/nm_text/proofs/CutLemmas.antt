-- Where a list is cut nothing is lost. For the proof of `nothing_is_cut_away`.
use Rattle.std.proofs.Common.{◌≡◌, ℕ, zero, suc, ◌-◌, ◌≤◌, List, [], ◌∷◌, ◌++◌, length, take, drop, refl, ap, ◌∙◌, arith, length-drop}
use Rattle.std.specs.List.{concat}
use Rattle.std.proofs.lemmas.List.{take-append-drop}
use Rattle.nm_text.specs.Cuts.{cut, cut_upto}

concat-cut_upto : (n : ℕ) (more : ℕ → List ℕ → ℕ) (xs : List ℕ) → length xs ≤ n → concat (cut_upto n more xs) ≡ xs
concat-cut_upto zero more [] h = refl
concat-cut_upto zero more (x ∷ xs) h = absurd (omega arith)
concat-cut_upto (suc n) more [] h = refl
concat-cut_upto (suc n) more (x ∷ xs) h =
    let left : length (drop (more x xs) xs) ≡ length xs - more x xs = length-drop (more x xs) xs in
    ap (λ rest. (x ∷ take (more x xs) xs) ++ rest) (concat-cut_upto n more (drop (more x xs) xs) (omega arith)) ∙ ap (λ l. x ∷ l) (take-append-drop (more x xs) xs)

pub concat-cut : (more : ℕ → List ℕ → ℕ) (xs : List ℕ) → concat (cut more xs) ≡ xs
unfolding cut
concat-cut more xs = concat-cut_upto (length xs) more xs (omega arith)
