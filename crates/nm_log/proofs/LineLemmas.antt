-- Lines of a text, one after the other. For the proofs of `add_all_unmoved` and `add_strangers`.
use Rattle.std.proofs.Common.{◌≡◌, ℕ, ◌+◌, ◌<◌, List, [], ◌∷◌, ◌++◌, length, take, get_or, sym, ap, ◌∙◌, append-nil, append_assoc}
use Rattle.std.proofs.lemmas.Grind.{flat_map-append}
use Rattle.std.proofs.lemmas.List.{take_more}
use Rattle.std.specs.List.{flat_map}

-- one line more
pub one-more : {T : Type 0} (line_of : T → List ℕ) (first before after : List ℕ) (all : List T) (i : ℕ) (item : T) → i < length all → item ≡ get_or all i item → before ≡ first ++ flat_map line_of (take i all)
    → after ≡ before ++ line_of item → after ≡ first ++ flat_map line_of (take (i + 1) all)
one-more {T} line_of first before after all i item within is so_far added =
    added
    ∙ (ap (λ (l : List ℕ). l ++ line_of item) so_far
    ∙ (append_assoc first (flat_map line_of (take i all)) (line_of item)
    ∙ ap (λ (l : List ℕ). first ++ l) (ap (λ (l : List ℕ). flat_map line_of (take i all) ++ l) (sym (append-nil (line_of item)))
    ∙ (sym (flat_map-append line_of (take i all) (item ∷ []))
    ∙ (ap (λ (x : T). flat_map line_of (take i all ++ x ∷ [])) is ∙ ap (flat_map line_of) (sym (take_more all i item within)))))))
