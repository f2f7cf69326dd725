-- Pieces of a list, taken from its front one after the other. For the proof of `MemSource::take`.
use Rattle.std.proofs.Common.{◌≡◌, ℕ, ◌+◌, ◌<◌, List, [], ◌++◌, min, length, take, drop, sym, ap, ◌∙◌, arith, take-append-drop}
use Rattle.std.proofs.lemmas.List.{drop_all, drop-drop}

-- A piece as long as both have room for is the front of what is left; it is empty only at the end.
pub gives_front : (xs old buf : List ℕ) (at n room : ℕ) → old ≡ drop at xs → n ≡ min (length old) room → length buf ≡ room → take n buf ≡ take n old
    → (old ≡ take n buf ++ drop (at + n) xs) × (n ≡ 0 → 0 < length buf → drop (at + n) xs ≡ [])
gives_front xs old buf at n room e m same_room same =
    let rest : drop n old ≡ drop (at + n) xs = ap (drop n) e ∙ drop-drop n at xs in (
      sym (take-append-drop n old) ∙ ap (λ l. l ++ drop n old) (sym same) ∙ ap (λ l. take n buf ++ l) rest,
      λ none some. sym rest ∙ drop_all n old (omega arith),
    )

-- the same, where the list left goes by two names
pub gives_front_of : (xs ys left old buf : List ℕ) (at n room : ℕ) → old ≡ drop at xs → ys ≡ xs → left ≡ drop at ys
    → n ≡ min (length left) room → length buf ≡ room → take n buf ≡ take n left
    → (old ≡ take n buf ++ drop (at + n) xs) × (n ≡ 0 → 0 < length buf → drop (at + n) xs ≡ [])
gives_front_of xs ys left old buf at n room e same_list l m same_room same =
    let is_left : left ≡ old = l ∙ ap (drop at) same_list ∙ sym e in
    gives_front xs old buf at n room e (m ∙ ap (λ list. min (length list) room) is_left) same_room (same ∙ ap (take n) is_left)
