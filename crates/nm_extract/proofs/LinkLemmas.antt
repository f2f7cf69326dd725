-- The links of a mail: a set of the ids that were seen tells which ids are new. For the proof of `links_among`.
use Rattle.std.proofs.Common.{◌≡◌, ℕ, ◌+◌, ◌<◌, Bool, true, false, ◌||◌, cond, List, [], ◌∷◌, ◌++◌, fold, length, take, get_or, refl, sym, ap, ◌∙◌}
use Rattle.std.proofs.lemmas.List.Sums.{fold_more}
use Rattle.nm_base.specs.Order.{has_text, same_text}
use Rattle.nm_extract.specs.Ids.{with_link}

or_swap : (a b c : Bool) → (a || (b || c)) ≡ (b || (a || c))
or_swap true true c = refl
or_swap true false c = refl
or_swap false b c = refl

-- a list has what was put at its end, and what it had
pub has_text-more : (texts : List (List ℕ)) (k p : List ℕ) → (same_text p k || has_text texts p) ≡ has_text (texts ++ k ∷ []) p
has_text-more [] k p = refl
has_text-more (x ∷ xs) k p = or_swap (same_text p k) (same_text p x) (has_text xs p) ∙ ap (λ b. same_text p x || b) (has_text-more xs k p)

-- one id more
turn : (own id : List ℕ) (ids links : List (List ℕ)) (i : ℕ) → i < length ids → id ≡ get_or ids i id → links ≡ fold (with_link own) [] (take i ids)
    → fold (with_link own) [] (take (i + 1) ids) ≡ with_link own links id
turn own id ids links i h at so_far = fold_more (with_link own) [] ids i id h ∙ (ap (with_link own (fold (with_link own) [] (take i ids))) (sym at) ∙ ap (λ l. with_link own l id) (sym so_far))

-- one that is there, or the own one, is no link more
pub links_kept : (own id : List ℕ) (ids links : List (List ℕ)) (i : ℕ) → i < length ids → id ≡ get_or ids i id → links ≡ fold (with_link own) [] (take i ids)
    → has_text (own ∷ links) id ≡ true → links ≡ fold (with_link own) [] (take (i + 1) ids)
links_kept own id ids links i h at so_far there = sym (turn own id ids links i h at so_far ∙ ap (λ v. cond v links (links ++ id ∷ [])) there)

-- another is
pub links_more : (own id : List ℕ) (ids links : List (List ℕ)) (i : ℕ) → i < length ids → id ≡ get_or ids i id → links ≡ fold (with_link own) [] (take i ids)
    → has_text (own ∷ links) id ≡ false → links ++ id ∷ [] ≡ fold (with_link own) [] (take (i + 1) ids)
links_more own id ids links i h at so_far new = sym (turn own id ids links i h at so_far ∙ ap (λ v. cond v links (links ++ id ∷ [])) new)
