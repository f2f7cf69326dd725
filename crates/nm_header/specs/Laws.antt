-- What follows from the definitions: no byte of a header is lost or read twice, and ids and fields that are written are read.
-- Cited by `laws`.
use Rattle.std.specs.Prelude.{ℕ, Bool, ◌||◌, ◌==◌, List, [], ◌∷◌, ◌++◌, length, take, drop}
use Rattle.std.specs.List.{concat, flat_map}
use Rattle.nm_header.specs.HeaderLines.{header_lines, rest_of}
use Rattle.nm_text.specs.Lines.{lines_of}

-- the empty line after the header, if there is one
abbrev pub line_after_header : List ℕ → List ℕ
line_after_header bytes = concat (take 1 (drop (length (header_lines bytes)) (lines_of bytes)))

-- the lines of the header, the empty line, and the body, one after the other
abbrev pub put_together : List ℕ → List ℕ
put_together bytes = concat (header_lines bytes) ++ (line_after_header bytes ++ drop (rest_of bytes) bytes)

-- ids as they are written in a field: each in angles, after a blank
abbrev pub written : List (List ℕ) → List ℕ
written ids = flat_map (λ id. 32 ∷ 60 ∷ (id ++ 62 ∷ [])) ids

-- CR or LF
abbrev pub is_line_end : ℕ → Bool
is_line_end b = b == 13 || b == 10

-- the header of one field, with the front of its body on the first line and the back on the second
abbrev pub folded : List ℕ → List ℕ → List ℕ → List ℕ
folded name front back = (name ++ 58 ∷ 32 ∷ front) ++ 10 ∷ (back ++ 10 ∷ 10 ∷ [])
