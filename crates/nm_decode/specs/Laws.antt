-- What the definitions have to satisfy: encodings read back, texts without words stay, and white space between words goes.
-- Cited by `laws`.
use Rattle.std.specs.Prelude.{◌≡◌, ◌≢◌, ℕ, Bool, true, false, ◌&&◌, ◌||◌, ◌==◌, ◌+◌, ◌/◌, ◌%◌, nat_lt, if◌then◌else◌, List, [], ◌∷◌, ◌++◌, Some, codes}
use Rattle.std.specs.List.{flat_map, list_any}
use Rattle.base64.specs.Engines.{standard}
use Rattle.base64.specs.GeneralPurpose.{encode_of}
use Rattle.nm_base.specs.Bounds.{is_white_space}
use Rattle.nm_text.specs.Cuts.{is_byte}
use Rattle.nm_decode.specs.EncodedWords.{word_text}

-- a `=?` is somewhere in the text
abbrev pub has_mark : List ℕ → Bool
has_mark [] = false
has_mark (a ∷ []) = false
has_mark (a ∷ b ∷ more) = a == 61 && b == 63 || has_mark (b ∷ more)

-- bytes that may represent themselves in quoted-printable: neither `=` nor white space
abbrev pub IsUnencodedTest : (ℕ → Bool) → Type 0
IsUnencodedTest unencoded = (b : ℕ) → unencoded b ≡ true → (b ≢ 61) × (is_white_space b ≡ false)

-- the hex digit of a number below 16
abbrev pub hex_digit : ℕ → ℕ
hex_digit n = if nat_lt n 10 then n + 48 else n + 55

-- a byte in quoted-printable: itself, or `=` and two hex digits
abbrev pub quoted_byte : (ℕ → Bool) → ℕ → List ℕ
quoted_byte unencoded b = if unencoded b then b ∷ [] else 61 ∷ hex_digit (b / 16) ∷ hex_digit (b % 16) ∷ []

-- bytes in quoted-printable, on one line
abbrev pub quoted_line : (ℕ → Bool) → List ℕ → List ℕ
quoted_line unencoded bytes = flat_map (quoted_byte unencoded) bytes

-- a text as one encoded word in B
abbrev pub b_word : List ℕ → List ℕ
b_word text = codes "=?utf-8?B?" ++ (encode_of standard text ++ codes "?=")

-- bytes that may represent themselves in Q: neither `=`, `?`, `_` nor white space
abbrev pub IsQTest : (ℕ → Bool) → Type 0
IsQTest unencoded = (b : ℕ) → unencoded b ≡ true → (b ≢ 61) × (is_white_space b ≡ false) × (b ≢ 63) × (b ≢ 95)

-- a text as one encoded word in Q
abbrev pub q_word : (ℕ → Bool) → List ℕ → List ℕ
q_word unencoded text = codes "=?utf-8?Q?" ++ (quoted_line unencoded text ++ codes "?=")

-- an encoded word of these fields
abbrev pub word_written : List ℕ → List ℕ → List ℕ → List ℕ
word_written charset encoding encoded = codes "=?" ++ (charset ++ (codes "?" ++ (encoding ++ (codes "?" ++ (encoded ++ codes "?=")))))

-- one encoded word and nothing else, which decodes to the text; no `?` is in its fields
pub record IsWordOf (word text : List ℕ) : Type 0 where
  pub charset : List ℕ
  pub encoding : List ℕ
  pub encoded : List ℕ
  pub written : word ≡ word_written charset encoding encoded
  pub charset_free : list_any (is_byte 63) charset ≡ false
  pub encoding_free : list_any (is_byte 63) encoding ≡ false
  pub encoded_free : list_any (is_byte 63) encoded ≡ false
  pub decoded : word_text charset encoding encoded ≡ Some text
