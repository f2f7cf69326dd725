-- The search goes on by one item, of those that are left or of those in a list. For the proofs of `all_matches` and `matches_among`.
use Rattle.std.proofs.Common.{◌≡◌, refl, sym, ap, ◌∙◌, ℕ, ◌<◌, ◌+◌, Bool, true, false, cond, List, [], ◌∷◌, ◌++◌, append_assoc, append-nil, filter, length, take}
use Rattle.std.specs.Prelude.{slice_index_or}
use Rattle.std.proofs.lemmas.List.Elements.{filter_more}

kept : {X : Type 0} (p : X → Bool) (x : X) (rest : List X) → p x ≡ true → x ∷ filter p rest ≡ filter p (x ∷ rest)
kept p x rest passes = rw passes refl

dropped : {X : Type 0} (p : X → Bool) (x : X) (rest : List X) → p x ≡ false → filter p rest ≡ filter p (x ∷ rest)
dropped p x rest passes = rw passes refl

-- what passes is found after what was found before
pub one_found : {X : Type 0} (p : X → Bool) (found : List X) (x : X) (left rest all more : List X) → found ++ filter p left ≡ all → left ≡ x ∷ rest → more ≡ found ++ x ∷ [] → p x ≡ true
    → more ++ filter p rest ≡ all
one_found p found x left rest all more before is added passes =
    ap (λ xs. xs ++ filter p rest) added ∙ append_assoc found (x ∷ []) (filter p rest)
    ∙ ap (λ xs. found ++ xs) (kept p x rest passes) ∙ ap (λ xs. found ++ filter p xs) (sym is) ∙ before

-- and what does not is passed over
pub none_found : {X : Type 0} (p : X → Bool) (found : List X) (x : X) (left rest all : List X) → found ++ filter p left ≡ all → left ≡ x ∷ rest → p x ≡ false
    → found ++ filter p rest ≡ all
none_found p found x left rest all before is passes = ap (λ xs. found ++ xs) (dropped p x rest passes) ∙ ap (λ xs. found ++ filter p xs) (sym is) ∙ before

-- ---- of those in a list

pub found_more : {X : Type 0} (p : X → Bool) (xs : List X) (i : ℕ) (x : X) (found more : List X) → i < length xs → x ≡ slice_index_or xs i x → found ≡ filter p (take i xs)
    → more ≡ found ++ x ∷ [] → p x ≡ true → more ≡ filter p (take (i + 1) xs)
found_more p xs i x found more below is before added passes =
    added ∙ ap (λ ys. ys ++ x ∷ []) before
    ∙ sym (filter_more p xs i x below ∙ ap (λ y. filter p (take i xs) ++ cond (p y) (y ∷ []) []) (sym is) ∙ ap (λ b. filter p (take i xs) ++ cond b (x ∷ []) []) passes)

pub found_same : {X : Type 0} (p : X → Bool) (xs : List X) (i : ℕ) (x : X) (found : List X) → i < length xs → x ≡ slice_index_or xs i x → found ≡ filter p (take i xs)
    → p x ≡ false → found ≡ filter p (take (i + 1) xs)
found_same p xs i x found below is before passes =
    before
    ∙ sym (filter_more p xs i x below ∙ ap (λ y. filter p (take i xs) ++ cond (p y) (y ∷ []) []) (sym is) ∙ ap (λ b. filter p (take i xs) ++ cond b (x ∷ []) []) passes
    ∙ append-nil (filter p (take i xs)))
