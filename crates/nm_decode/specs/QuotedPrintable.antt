-- Quoted-printable (RFC 2045, section 6.7), read leniently: a `=` that begins no escape and ends no line represents itself.
-- Cited by `quoted` and `nm_extract`.
use Rattle.std.specs.Prelude.{ℕ, Bool, ◌&&◌, ◌==◌, nat_lt, if◌then◌else◌, ◌-◌, List, [], ◌∷◌, ◌++◌, length, take, slice_index}
use Rattle.std.specs.List.{flat_map}
use Rattle.nm_text.specs.Cuts.{ends_with}
use Rattle.nm_text.specs.Lines.{lines_of}
use Rattle.nm_text.specs.WhiteSpace.{trimmed_end}
use Rattle.nm_decode.specs.Bytes.{hex_byte, is_hex}

-- `=` and two hex digits become their byte
abbrev pub unescaped : List ℕ → List ℕ
unescaped [] = []
unescaped (a ∷ []) = a ∷ []
unescaped (a ∷ b ∷ []) = a ∷ b ∷ []
unescaped (a ∷ b ∷ c ∷ more) =
    if a == 61 && is_hex b && is_hex c then hex_byte b c ∷ unescaped more else a ∷ unescaped (b ∷ c ∷ more)

-- a `=` as the last byte is a soft break: it and the line end vanish
abbrev pub line_bytes : List ℕ → List ℕ
line_bytes line = let content = trimmed_end line in
    if ends_with 61 content then unescaped (take (length content - 1) content)
    else unescaped content ++ (if ends_with 10 line then 10 ∷ [] else [])

-- the bytes of a quoted-printable body, line by line
abbrev pub quoted_of : List ℕ → List ℕ
quoted_of bytes = flat_map line_bytes (lines_of bytes)
