-- The parts in the content of a multipart (RFC 2046, section 5.1.1): what is between its delimiter lines.
-- Cited by `children`.
use Rattle.std.specs.Prelude.{ℕ, ◌+◌, ◌-◌, Bool, false, ◌&&◌, ◌||◌, List, [], ◌∷◌, ◌++◌, length, drop, nat_eq, codes, if◌then◌else◌}
use Rattle.std.specs.List.{concat, starts_with}
use Rattle.nm_text.specs.WhiteSpace.{is_all_white_space}
use Rattle.nm_text.specs.Lines.{content, lines_of}
use Rattle.nm_mime.specs.declared.children.Delimiters.{Delimiters}
use Rattle.nm_mime.specs.declared.children.Span.{Span}

-- `--boundary` and `--boundary--`
abbrev pub delimiters_of : List ℕ → Delimiters
delimiters_of boundary = record { delimiter = codes "--" ++ boundary; closing = (codes "--" ++ boundary) ++ codes "--" }

-- the content of the line has this in front, and then white space alone
abbrev pub is_line_of : List ℕ → List ℕ → Bool
is_line_of front line = starts_with nat_eq (content line) front && is_all_white_space (drop (length front) (content line))

-- a part that comes before the line ends there
abbrev pub ends_part : Delimiters → List ℕ → Bool
ends_part delimiters line = is_line_of delimiters.delimiter line || is_line_of delimiters.closing line

-- the first of these lines ends a part
abbrev pub stops : Delimiters → List (List ℕ) → Bool
stops delimiters [] = false
stops delimiters (line ∷ more) = ends_part delimiters line

-- how many bytes a part has that begins with these lines: up to the line end before a delimiter, which belongs to that, or all
abbrev pub part_len : Delimiters → List (List ℕ) → ℕ
part_len delimiters [] = 0
part_len delimiters (line ∷ more) =
    if ends_part delimiters line then 0
    else (if stops delimiters more then length (content line) else length line + part_len delimiters more)

-- a part that begins with these lines, the last ones before `end`
abbrev pub part_after : Delimiters → ℕ → List (List ℕ) → Span
part_after delimiters end lines =
    let from : ℕ = end - length (concat lines) in record { from = from; to = from + part_len delimiters lines }

-- the part after a line, where that is a delimiter
abbrev pub part_at : Delimiters → ℕ → List ℕ → List (List ℕ) → List Span
part_at delimiters end line more = if is_line_of delimiters.delimiter line then part_after delimiters end more ∷ [] else []

-- the parts in these lines, the last ones before `end`: one after each delimiter, up to the first closing one
abbrev pub spans_in : Delimiters → ℕ → List (List ℕ) → List Span
spans_in delimiters end [] = []
spans_in delimiters end (line ∷ more) =
    if is_line_of delimiters.closing line then [] else part_at delimiters end line more ++ spans_in delimiters end more

-- the parts in these bytes, which end before `end`
unfoldable pub spans_of : Delimiters → ℕ → List ℕ → List Span
spans_of delimiters end bytes = spans_in delimiters end (lines_of bytes)
