-- Header fields (RFC 5322, sections 2.2 and 2.2.3): one starting line and all continuing lines right after it.
-- Cited by `field_line`, `header`, `nm_mime` and others.
use Rattle.std.specs.Prelude.{ℕ, Bool, false, ◌&&◌, ◌==◌, not, List, [], ◌∷◌, ◌++◌, length, map, nat_eq, codes, if◌then◌else◌}
use Rattle.std.specs.Char.{to_ascii_lowercase}
use Rattle.std.specs.List.{before_first, after_first, concat, list_all, list_any, starts_with, take_while}
use Rattle.nm_header.specs.declared.header.HeaderField.{HeaderField}
use Rattle.nm_header.specs.declared.header.HeaderList.{HeaderList}
use Rattle.nm_header.specs.HeaderLines.{header_lines, rest_of}
use Rattle.nm_text.specs.Cuts.{is_byte}
use Rattle.nm_text.specs.Lines.{content}
use Rattle.nm_text.specs.WhiteSpace.{is_blank, is_printable, trimmed, trimmed_end}

-- it begins with space or tab
abbrev pub continues : List ℕ → Bool
continues [] = false
continues (b ∷ line) = is_blank b

-- it begins with `From `, as the first line of a mail in an mbox does
abbrev pub is_from_line : List ℕ → Bool
is_from_line line = starts_with nat_eq line (codes "From ")

-- what comes before the first colon, without white space at its end
abbrev pub name_of : List ℕ → List ℕ
name_of line = trimmed_end (before_first (is_byte 58) (content line))

-- printable characters alone, and at least one
abbrev pub is_name : List ℕ → Bool
is_name name = not (length name == 0) && list_all is_printable name

-- a line that continues none and has a name before a colon
abbrev pub begins_field : List ℕ → Bool
begins_field line = not (continues line) && (list_any (is_byte 58) (content line) && is_name (name_of line))

-- what the lines that continue a field add to its body, where these lines follow
abbrev pub folded_of : List (List ℕ) → List ℕ
folded_of lines = concat (map content (take_while continues lines))

-- what comes after the colon, and in the lines that continue it, without the line ends
abbrev pub joined_of : List ℕ → List (List ℕ) → List ℕ
joined_of line more = after_first (is_byte 58) (content line) ++ folded_of more

-- the field that begins with this line, where these lines follow; names have no case
abbrev pub field_of : List ℕ → List (List ℕ) → HeaderField
field_of line more = record { name = map to_ascii_lowercase (name_of line); body = trimmed (joined_of line more) }

-- the fields that begin at a place in these lines; every other line that continues none of them is skipped
abbrev pub fields_in : List (List ℕ) → List HeaderField
fields_in [] = []
fields_in (line ∷ more) = if begins_field line then field_of line more ∷ fields_in more else fields_in more

-- without a first line of an mbox
abbrev pub without_from_line : List (List ℕ) → List (List ℕ)
without_from_line [] = []
without_from_line (line ∷ more) = if is_from_line line then more else line ∷ more

-- the header of a mail, and where its body begins
abbrev pub header_of : List ℕ → HeaderList
header_of bytes = record { list = fields_in (without_from_line (header_lines bytes)); rest = rest_of bytes }
