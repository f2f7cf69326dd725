-- JSON as replies have it (RFC 8259): no space, and the shortest escapes. Cited by `nm_render`.
use Rattle.std.specs.Prelude.{ℕ, ◌/◌, ◌%◌, ◌==◌, ◌||◌, nat_lt, List, [], ◌∷◌, ◌++◌, codes, if◌then◌else◌}
use Rattle.std.specs.Char.{digit_char}
use Rattle.std.specs.List.{flat_map}

-- the letter after `\` that represents a byte, or 0 where it has none
abbrev pub escape_letter : ℕ → ℕ
escape_letter byte =
    if byte == 34 || byte == 92 then byte else if byte == 8 then 98 else if byte == 12 then 102 else if byte == 10 then 110 else if byte == 13 then 114 else if byte == 9 then 116 else 0

-- what is in a string for a byte: itself, unless it is a quote, a backslash or a control character
abbrev pub escaped : ℕ → List ℕ
escaped byte =
    if nat_lt 0 (escape_letter byte) then 92 ∷ escape_letter byte ∷ []
    else if nat_lt byte 32 then codes "\\u00" ++ digit_char (byte / 16) ∷ digit_char (byte % 16) ∷ []
    else byte ∷ []

-- the text as a string
abbrev pub json_string : List ℕ → List ℕ
json_string text = 34 ∷ (flat_map escaped text ++ 34 ∷ [])

-- the texts one after the other, with this one between them
abbrev pub joined : List ℕ → List (List ℕ) → List ℕ
joined between [] = []
joined between (text ∷ []) = text
joined between (text ∷ next ∷ texts) = text ++ (between ++ joined between (next ∷ texts))

-- values as an array
abbrev pub json_array : List (List ℕ) → List ℕ
json_array values = 91 ∷ (joined (44 ∷ []) values ++ 93 ∷ [])
