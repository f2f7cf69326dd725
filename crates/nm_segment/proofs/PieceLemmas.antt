-- Strings of bytes in one block: one more at the end, and each by its place. For the proofs of `Pieces`.
use Rattle.std.proofs.Common.{◌≡◌, ℕ, zero, suc, ◌+◌, ◌-◌, ◌<◌, ◌≤◌, List, [], ◌∷◌, ◌++◌, length, get_or, take, drop, refl, ap, arith, length-append, length-drop}
use Rattle.std.proofs.lemmas.List.{take-append-le, drop-append-le, take_all, drop_at}
use Rattle.nm_segment.specs.Pieces.{AreEnds, IsSpan, pieces}

-- there are as many pieces as places
pub length-pieces : (start : ℕ) (ends block : List ℕ) → length (pieces start ends block) ≡ length ends
length-pieces start [] block = refl
length-pieces start (end ∷ ends) block = ap suc (length-pieces end ends block)

-- no place is past the last
pub start_le : (start : ℕ) (ends : List ℕ) (last : ℕ) → AreEnds start ends last → start ≤ last
start_le start [] last h = omega arith
start_le start (end ∷ ends) last h = omega (arith, h.0, start_le end ends last h.1)

-- where the piece at a place begins
abbrev pub start_at : ℕ → List ℕ → ℕ → ℕ
start_at start ends at = get_or (start ∷ ends) at 0

-- a piece by its place
pub piece : (start : ℕ) (ends block : List ℕ) (at : ℕ) → at < length ends
    → get_or (pieces start ends block) at [] ≡ take (get_or ends at 0 - start_at start ends at) (drop (start_at start ends at) block)
piece start [] block at h = absurd (omega (arith, h))
piece start (end ∷ ends) block zero h = refl
piece start (end ∷ ends) block (suc at) h = piece end ends block at (omega (arith, h))

-- a piece begins before it ends, and ends within the block
pub within : (start : ℕ) (ends : List ℕ) (last at : ℕ) → AreEnds start ends last → at < length ends
    → (start_at start ends at ≤ get_or ends at 0) × (get_or ends at 0 ≤ last)
within start [] last at h less = absurd (omega (arith, less))
within start (end ∷ ends) last zero h less = (h.0, start_le end ends last h.1)
within start (end ∷ ends) last (suc at) h less = within end ends last at h.1 (omega (arith, less))

-- one more piece at the end
pub pushed : (start : ℕ) (ends block more : List ℕ) → AreEnds start ends (length block)
    → pieces start (ends ++ (length block + length more) ∷ []) (block ++ more) ≡ pieces start ends block ++ more ∷ []
pushed start [] block more h =
    rw h (ap (λ (xs : List ℕ). xs ∷ []) (rw (drop_at block more (length block) refl) (take_all (length block + length more - length block) more (omega arith))))
pushed start (end ∷ ends) block more h =
    let le : end ≤ length block = start_le end ends (length block) h.1 in
    let first : take (end - start) (drop start (block ++ more)) ≡ take (end - start) (drop start block) =
    rw (drop-append-le start block more (omega (arith, h.0))) (take-append-le (end - start) (drop start block) more (omega (arith, length-drop start block, h.0))) in
    rw (first, pushed end ends block more h.1) refl

pub ends_pushed : (start : ℕ) (ends : List ℕ) (last more : ℕ) → AreEnds start ends last → AreEnds start (ends ++ (last + more) ∷ []) (last + more)
ends_pushed start [] last more h = (omega (arith, h), refl)
ends_pushed start (end ∷ ends) last more h = (h.0, ends_pushed end ends last more h.1)

-- the same as a call finds it
pub pushed_to : (ends block piece ends' block' : List ℕ) (len : ℕ) → AreEnds 0 ends (length block) → len ≡ length block → ends' ≡ ends ++ (len + length piece) ∷ [] → block' ≡ block ++ piece
    → AreEnds 0 ends' (length block') × (pieces 0 ends' block' ≡ pieces 0 ends block ++ piece ∷ [])
pushed_to ends block piece ends' block' len h l e b =
    rw (e, b, l, length-append block piece) (ends_pushed 0 ends (length block) (length piece) h, pushed 0 ends block piece h)

-- where the piece at a place begins and ends
pub spans : (ends : List ℕ) (len at start end : ℕ) → AreEnds 0 ends len → at < length ends → start ≡ start_at 0 ends at → end ≡ get_or ends at 0 → IsSpan ends len at start end
spans ends len at start end h less s e =
    let w = within 0 ends len at h less in
    record {
      order = rw (s, e) w.0;
      fits = rw e w.1;
      piece = λ block. rw (s, e) (piece 0 ends block at less);
    }
