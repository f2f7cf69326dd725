-- Bytes that are read one by one. For the proof of `unquoted`.
use Rattle.std.proofs.Common.{◌≡◌, ℕ, List, [], ◌∷◌, ◌++◌, refl, ap, append_assoc, Option, Some, None}
use Rattle.nm_model_answer.specs.BatchTag.{with_byte}

-- bytes before a text, where there is one
abbrev pub with_bytes : List ℕ → Option (List ℕ) → Option (List ℕ)
with_bytes before (Some text) = Some (before ++ text)
with_bytes before None = None

-- a byte after others
pub with_one_byte : (before : List ℕ) (byte : ℕ) (text : Option (List ℕ)) → with_bytes (before ++ byte ∷ []) text ≡ with_bytes before (with_byte byte text)
with_one_byte before byte (Some text) = ap Some (append_assoc before (byte ∷ []) text)
with_one_byte before byte None = refl
