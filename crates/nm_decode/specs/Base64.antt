-- Base64 (RFC 2045, section 6.8), read leniently: what is no symbol is passed over, and the first `=` ends the data.
-- Cited by `groups` and `nm_extract`.
use Rattle.std.specs.Prelude.{ℕ, Bool, ◌||◌, ◌==◌, if◌then◌else◌, ◌+◌, ◌-◌, ◌*◌, ◌/◌, ◌%◌, List, [], ◌∷◌, map, Option, None, Some}
use Rattle.std.specs.List.{before_first, filter}
use Rattle.nm_text.specs.Cuts.{is_byte}
use Rattle.nm_decode.specs.Bytes.{is_between}

-- a character of the alphabet: A to Z, a to z, 0 to 9, `+`, `/`
abbrev pub is_symbol : ℕ → Bool
is_symbol b = is_between 65 90 b || is_between 97 122 b || is_between 48 57 b || b == 43 || b == 47

-- its six bits
abbrev pub six_bits : ℕ → ℕ
six_bits b = if is_between 65 90 b then b - 65 else (if is_between 97 122 b then b - 71
    else (if is_between 48 57 b then b + 4 else (if b == 43 then 62 else 63)))

-- the same, where there is a symbol
abbrev pub symbol_of : ℕ → Option ℕ
symbol_of b = if is_symbol b then Some (six_bits b) else None

-- the characters that count
abbrev pub kept : List ℕ → List ℕ
kept bytes = filter is_symbol (before_first (is_byte 61) bytes)

-- groups of four make three bytes; a rest of three makes two, a rest of two makes one, with the spare bits ignored
abbrev pub bytes_of_groups : List ℕ → List ℕ
bytes_of_groups (a ∷ b ∷ c ∷ d ∷ more) =
    (a * 4 + b / 16) ∷ (b % 16 * 16 + c / 4) ∷ (c % 4 * 64 + d) ∷ bytes_of_groups more
bytes_of_groups (a ∷ b ∷ c ∷ []) = (a * 4 + b / 16) ∷ (b % 16 * 16 + c / 4) ∷ []
bytes_of_groups (a ∷ b ∷ []) = (a * 4 + b / 16) ∷ []
bytes_of_groups (a ∷ []) = []
bytes_of_groups [] = []

-- the bytes of a body in base64
abbrev pub base64_of : List ℕ → List ℕ
base64_of bytes = bytes_of_groups (map six_bits (kept bytes))
