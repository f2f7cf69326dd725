-- Equal words are hashed alike. For the proof of `Key` alone.
use Rattle.std.proofs.Common.{◌≡◌, ℕ, List, [], ◌∷◌, ap, sym}
use Rattle.std.specs.Prelude.{IsTrue}
use Rattle.nm_base.specs.Order.{same_text}
use Rattle.nm_base.specs.SetLaws.{bytes_same}

pub same_input : (x y : List ℕ) → IsTrue (same_text x y) → x ∷ [] ≡ y ∷ []
same_input x y e = ap (λ word. word ∷ []) (bytes_same x y (sym e))
