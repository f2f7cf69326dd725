-- Lines of sup as they are written, and read again. For the proof of `push_plain_tags`.
use Rattle.std.proofs.Common.{◌≡◌, ℕ, List, [], ◌∷◌, ◌++◌, sym, ap, ◌∙◌, append-nil, append_assoc}
use Rattle.std.specs.List.{flat_map, join_with_byte}

-- after the first tag each has a space before it
pub join_first : (first : List ℕ) (others : List (List ℕ)) → join_with_byte 32 (first ∷ others) ≡ first ++ flat_map (λ tag. 32 ∷ tag) others
join_first first [] = sym (append-nil first)
join_first first (next ∷ others) = ap (λ more. first ++ 32 ∷ more) (join_first next others)

-- the first tag after a text, and then the others, are all
pub joined_start : (text first : List ℕ) (tags others : List (List ℕ)) → tags ≡ first ∷ others
    → (text ++ first) ++ flat_map (λ tag. 32 ∷ tag) others ≡ text ++ join_with_byte 32 tags
joined_start text first tags others e =
    append_assoc text first (flat_map (λ tag. 32 ∷ tag) others)
    ∙ ap (λ more. text ++ more) (sym (join_first first others) ∙ ap (join_with_byte 32) (sym e))
