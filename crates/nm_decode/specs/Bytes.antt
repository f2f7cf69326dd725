-- Tests on bytes that more than one encoding uses. Cited by `quoted`.
use Rattle.std.specs.Prelude.{ℕ, Bool, ◌||◌, ◌&&◌, nat_lt, nat_le, if◌then◌else◌, ◌+◌, ◌-◌, ◌*◌, List, ◌∷◌, Option, None, Some}

-- `lo` to `hi`
abbrev pub is_between : ℕ → ℕ → ℕ → Bool
is_between lo hi b = nat_le lo b && nat_le b hi

-- a hex digit of either case
abbrev pub is_hex : ℕ → Bool
is_hex b = is_between 48 57 b || is_between 65 70 b || is_between 97 102 b

-- the value of a hex digit
abbrev pub hex_value : ℕ → ℕ
hex_value b = if nat_lt b 58 then b - 48 else (if nat_lt b 71 then b - 55 else b - 87)

-- the byte of two hex digits
abbrev pub hex_byte : ℕ → ℕ → ℕ
hex_byte high low = hex_value high * 16 + hex_value low

-- the value of a hex digit, where it is one
abbrev pub hex_of : ℕ → Option ℕ
hex_of b = if is_hex b then Some (hex_value b) else None

-- the byte of the two hex digits with which a text begins
abbrev pub escape_of : List ℕ → Option ℕ
escape_of (a ∷ b ∷ more) = if is_hex a && is_hex b then Some (hex_byte a b) else None
escape_of _ = None
