-- What follows from the definitions: how the parts are in the bytes, and how they follow each other.
-- Cited by `laws`.
use Rattle.std.specs.Prelude.{◌≡◌, ℕ, ◌+◌, ◌≤◌, Bool, ◌&&◌, ◌||◌, ◌==◌, not, List, [], ◌∷◌, ◌++◌, length, map, drop, if◌then◌else◌}
use Rattle.std.specs.Char.{to_ascii_lowercase}
use Rattle.std.specs.List.{before_first, concat, list_all, list_any, slice_split}
use Rattle.nm_base.specs.Bounds.{is_white_space}
use Rattle.nm_mime.specs.Params.{ends_name}
use Rattle.nm_mime.specs.declared.param_list.Param.{Param}
use Rattle.nm_text.specs.Lines.{content, lines_of}
use Rattle.nm_mime.specs.Children.{ends_part, is_line_of, spans_of}
use Rattle.nm_mime.specs.Parts.{bytes_in}
use Rattle.nm_mime.specs.declared.children.Delimiters.{Delimiters}
use Rattle.nm_mime.specs.declared.children.Span.{Span}
use Rattle.nm_mime.specs.declared.entity.Part.{Part}
use Rattle.nm_text.specs.Cuts.{is_byte}

-- they come one after the other, between two places
abbrev pub AreApart : ℕ → ℕ → List Span → Type 0
AreApart from to [] = from ≤ to
AreApart from to (span ∷ more) = (from ≤ span.from) × (span.from ≤ span.to) × AreApart span.to to more

-- each part is at most one level deeper than the one before it, the first at most at this level
abbrev pub GoDown : ℕ → List Part → Type 0
GoDown max [] = max ≡ max
GoDown max (part ∷ more) = (part.depth ≤ max) × GoDown (part.depth + 1) more

-- CR LF
abbrev pub line_end : List ℕ
line_end = 13 ∷ 10 ∷ []

-- a content with these parts: each after a delimiter line, and at the end the closing one
abbrev pub written_parts : Delimiters → List (List ℕ) → List ℕ
written_parts delimiters [] = delimiters.closing ++ line_end
written_parts delimiters (part ∷ more) = delimiters.delimiter ++ (line_end ++ (part ++ (line_end ++ written_parts delimiters more)))

-- with a line end after it none of its lines ends a part
abbrev pub is_kept : Delimiters → List ℕ → Bool
is_kept delimiters part = not (list_any (ends_part delimiters) (lines_of (part ++ line_end)))

-- the parts that are read in a content
abbrev pub read_parts : Delimiters → List ℕ → List (List ℕ)
read_parts delimiters bytes = map (λ span. bytes_in bytes span.from span.to) (spans_of delimiters (length bytes) bytes)

-- the lines of the parts: what is between delimiter lines, up to the first closing one
abbrev pub lines_between : Delimiters → List (List ℕ) → List (List (List ℕ))
lines_between delimiters lines = slice_split (is_line_of delimiters.delimiter) (before_first (is_line_of delimiters.closing) lines)

-- lines joined, without the end of the last one
abbrev pub without_end : List (List ℕ) → List ℕ
without_end [] = []
without_end (line ∷ []) = content line
without_end (line ∷ next ∷ more) = line ++ without_end (next ∷ more)

-- the texts of the parts with these lines; without a closing line the last part keeps its line end
abbrev pub texts_between : Bool → List (List (List ℕ)) → List (List ℕ)
texts_between closed [] = []
texts_between closed (last ∷ []) = (if closed then without_end last else concat last) ∷ []
texts_between closed (part ∷ next ∷ more) = without_end part ∷ texts_between closed (next ∷ more)

-- the texts between neighbouring delimiters; before the first one there is no part
abbrev pub parts_between : Delimiters → List (List ℕ) → List (List ℕ)
parts_between delimiters lines = texts_between (list_any (is_line_of delimiters.closing) lines) (drop 1 (lines_between delimiters lines))

-- a byte of a name as it is written: no white space, no upper-case letter, none of `=`, `;` and `*`
abbrev pub is_name_byte : ℕ → Bool
is_name_byte b = not (is_white_space b || ends_name b || is_byte 42 b || not (to_ascii_lowercase b == b))

-- a byte that a quoted string says as it is
abbrev pub is_quoted_byte : ℕ → Bool
is_quoted_byte b = not (b == 34 || b == 92)

-- a parameter of such bytes
abbrev pub is_writable : Param → Bool
is_writable param = list_all is_name_byte param.name && list_all is_quoted_byte param.value

-- parameters as they are written: `; name="value"` for each
abbrev pub written_params : List Param → List ℕ
written_params [] = []
written_params (param ∷ params) = 59 ∷ 32 ∷ (param.name ++ 61 ∷ 34 ∷ (param.value ++ 34 ∷ written_params params))
