-- Lines (RFC 5322, section 2.1): up to LF, and a CR right before it belongs to the line end.
-- Cited by `lines`, `nm_header`, `nm_mime` and others.
use Rattle.std.specs.Prelude.{ℕ, ◌-◌, Bool, ◌==◌, List, [], ◌∷◌, length, take, not, slice_index, if◌then◌else◌}
use Rattle.std.specs.List.{list_any, onto_first}
use Rattle.std.specs.Str.Lines.{strip_carriage_return}

abbrev pub is_line_feed : ℕ → Bool
is_line_feed b = b == 10

-- it has no LF
abbrev pub is_one_line : List ℕ → Bool
is_one_line text = not (list_any is_line_feed text)

-- the lines with their ends; the last may lack its own
abbrev pub lines_of : List ℕ → List (List ℕ)
lines_of [] = []
lines_of (b ∷ more) = if is_line_feed b then (b ∷ []) ∷ lines_of more else onto_first b (lines_of more)

-- the line without its end
abbrev pub content : List ℕ → List ℕ
content line =
    if is_line_feed (slice_index line (length line - 1)) then strip_carriage_return (take (length line - 1) line) else line
