-- Bytes that frame a body. For the proofs of `of_pieces` and `of_bytes`.
use Rattle.std.proofs.Common.{◌≡◌, ℕ, ◌-◌, ◌<◌, ◌≤◌, ◌^◌, List, [], ◌∷◌, ◌++◌, length, take, drop, sym, ap, ◌∙◌, arith, length-append, subst}
use Rattle.std.proofs.lemmas.List.{take_all}
use Rattle.std.proofs.Math.Seq.{take-append_seam}
use Rattle.std.specs.Int.{w32, to_be_bytes}
use Rattle.std.specs.List.{flat_map}
use Rattle.nm_journal.specs.Frame.{body_of, framed}

-- such bytes have the body
of_framed : (body : List ℕ) → body_of (framed body) ≡ body
of_framed body =
    let back : List ℕ = to_be_bytes w32 (length body) in
    let len : length (framed body) - 5 ≡ length body = omega (arith, length-append (back ++ body) (0 ∷ []), length-append back body) in
    ap (λ (n : ℕ). take n (drop 4 (framed body))) len ∙ take-append_seam body (0 ∷ [])

pub has_framed_body : (bytes : List ℕ) (body : List ℕ) → bytes ≡ framed body → body_of bytes ≡ body
has_framed_body bytes body is = ap body_of is ∙ of_framed body

pub is_framed_body : (bytes : List ℕ) → (body : List ℕ) × (bytes ≡ framed body) × (length body < 2 ^ 32) → bytes ≡ framed (body_of bytes)
is_framed_body bytes (body, is, short) = is ∙ ap framed (sym (has_framed_body bytes body is))

pub short_framed_body : (bytes : List ℕ) → (body : List ℕ) × (bytes ≡ framed body) × (length body < 2 ^ 32) → length (body_of bytes) < 2 ^ 32
short_framed_body bytes (body, is, short) = subst (λ (l : List ℕ). length l < 2 ^ 32) (sym (has_framed_body bytes body is)) short

-- what is written of all pieces, after their length, frames their body
pub pieces_framed : (len at : ℕ) (first written bytes : List ℕ) (others : List (List ℕ)) → len ≡ length (first ++ flat_map (λ piece. piece) others) → length others ≤ at
    → written ≡ to_be_bytes w32 len ++ (first ++ flat_map (λ piece. piece) (take at others)) → bytes ≡ written ++ 0 ∷ []
    → bytes ≡ framed (first ++ flat_map (λ piece. piece) others)
pieces_framed len at first written bytes others len_is all is end =
    end
    ∙ (ap (λ (w : List ℕ). w ++ 0 ∷ []) is
    ∙ (ap (λ (some : List (List ℕ)). (to_be_bytes w32 len ++ (first ++ flat_map (λ piece. piece) some)) ++ 0 ∷ []) (take_all at others all)
    ∙ (ap (λ (n : ℕ). (to_be_bytes w32 n ++ (first ++ flat_map (λ piece. piece) others)) ++ 0 ∷ []) len_is)))
