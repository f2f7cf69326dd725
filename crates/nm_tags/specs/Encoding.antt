-- A tag in a line of text: percent signs and two digits represent the bytes that the line could not hold.
-- Cited by `encode` and `nm_model_answer`.
use Rattle.std.specs.Prelude.{ℕ, Bool, ◌||◌, ◌==◌, List, [], ◌∷◌, if◌then◌else◌, codes}
use Rattle.std.specs.List.{flat_map, list_any}
use Rattle.std.specs.Char.{is_ascii_alphanumeric}
use Rattle.hex.specs.Hex.{encode_lower}

-- one of `@=.,_+-`
abbrev pub is_sign : ℕ → Bool
is_sign byte = list_any (λ sign. byte == sign) (codes "@=.,_+-")

-- the byte represents itself
abbrev pub is_written : ℕ → Bool
is_written byte = is_ascii_alphanumeric byte || is_sign byte

-- `%` and the two digits of the byte, in lower case
abbrev pub escaped : ℕ → List ℕ
escaped byte = 37 ∷ encode_lower (byte ∷ [])

abbrev pub encoded_byte : ℕ → List ℕ
encoded_byte byte = (if is_written byte then byte ∷ [] else escaped byte)

-- each byte as it is, or escaped
abbrev pub encoded_tag : List ℕ → List ℕ
encoded_tag tag = flat_map encoded_byte tag
