-- Strings of bytes that are kept one after the other in one block, by the place at which each ends. Cited by `pieces`.
use Rattle.std.specs.Prelude.{◌≡◌, ℕ, ◌-◌, ◌≤◌, List, [], ◌∷◌, take, drop, slice_index_or}

-- the block cut at these places, from a first place on
abbrev pub pieces : ℕ → List ℕ → List ℕ → List (List ℕ)
pieces start [] block = []
pieces start (end ∷ ends) block = take (end - start) (drop start block) ∷ pieces end ends block

-- places that never fall, from a first one to a last one
abbrev pub AreEnds : ℕ → List ℕ → ℕ → Type 0
AreEnds start [] last = start ≡ last
AreEnds start (end ∷ ends) last = (start ≤ end) × AreEnds end ends last

-- the piece at a place is what the block has from start to end
pub record IsSpan (ends : List ℕ) (len at start end : ℕ) : Type 0 where
  pub order : start ≤ end
  pub fits : end ≤ len
  pub piece : (block : List ℕ) → slice_index_or (pieces 0 ends block) at [] ≡ take (end - start) (drop start block)
