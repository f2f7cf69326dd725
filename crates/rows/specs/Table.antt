-- What a table has: paragraphs, parted by empty lines; a line that begins with `#` is a comment, also inside a paragraph.
-- Cited by `paragraph` and `table`.
use Rattle.std.specs.Prelude.{ℕ, ◌+◌, Bool, ◌==◌, ◌&&◌, ◌||◌, not, false, List, [], ◌∷◌, if◌then◌else◌}
use Rattle.std.specs.List.{slice_split}

-- whether a paragraph goes on after a line: an empty one ends it, a comment leaves it as it was, any other is of one
abbrev pub is_inside : Bool → List ℕ → Bool
is_inside inside [] = false
is_inside inside (byte ∷ bytes) = not (byte == 35) || inside

-- how many paragraphs the lines begin, inside of one or not
abbrev pub begun : Bool → List (List ℕ) → ℕ
begun inside [] = 0
begun inside (line ∷ lines) = (if is_inside inside line && not inside then 1 else 0) + begun (is_inside inside line) lines

-- how many paragraphs a table has
abbrev pub paragraph_count : List ℕ → ℕ
paragraph_count table = begun false (slice_split (λ b. b == 10) table)
