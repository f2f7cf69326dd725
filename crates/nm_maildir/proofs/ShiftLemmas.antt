-- Trees that are kept with the next one last. For the proof of `ShiftTree::new`.
use Rattle.std.proofs.Common.{◌≡◌, List, [], ◌∷◌, ◌++◌, reverse, sym, ap, ◌∙◌}
use Rattle.std.proofs.lemmas.List.{reverse-append, reverse-reverse}
use Rattle.nm_maildir.specs.Shift.{trees_of}
use Rattle.nm_maildir.specs.Still.{Still}

-- the first of the trees, and the others after it
pub first_taken : (given whole turned rest : List Still) (first : Still) → whole ≡ given → turned ≡ reverse whole → turned ≡ rest ++ first ∷ [] → first.tree ∷ trees_of (reverse rest) ≡ trees_of given
first_taken given whole turned rest first same is taken =
    ap trees_of (sym (reverse-append rest (first ∷ [])) ∙ (ap reverse (sym taken) ∙ (ap reverse is ∙ (reverse-reverse whole ∙ same))))
