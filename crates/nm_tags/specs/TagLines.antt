-- Lines of tag changes, and what is wrong with one.
--   line := ("+" tag | "-" tag)* "--"? query        with white space between; the query is the rest, trimmed
-- Cited by `batch`, `words`, `nm_dump` and others.
use Rattle.std.specs.Prelude.{◌≡◌, ℕ, zero, suc, ◌+◌, Bool, false, ◌==◌, ◌||◌, ◌&&◌, not, List, [], ◌∷◌, length, drop, Option, Some, None, Result, Ok, Err, codes, if◌then◌else◌}
use Rattle.std.specs.List.{before_first}
use Rattle.std.specs.Str.{is_utf8}
use Rattle.std.specs.Str.Lines.{lines}
use Rattle.nm_base.specs.Bounds.{is_white_space}
use Rattle.nm_base.specs.Order.{same_text}
use Rattle.nm_base.specs.declared.tag_op.TagOp.{TagOp}
use Rattle.nm_text.specs.WhiteSpace.{trimmed, trimmed_start}
use Rattle.nm_tags.specs.Decoding.{decoded_tag}
use Rattle.nm_tags.specs.declared.line_error.LineError.{LineError}
use Rattle.nm_tags.specs.declared.line_error.LineError.TheVariants as faults
use Rattle.nm_tags.specs.declared.line_error.LineKind.{LineKind}
use Rattle.nm_tags.specs.declared.line_error.LineKind.TheVariants as kinds
use Rattle.nm_tags.specs.declared.tag_line.TagLine.{TagLine}

-- it begins with white space
abbrev pub begins_with_space : List ℕ → Bool
begins_with_space [] = false
begins_with_space (first ∷ others) = is_white_space first

-- what comes before the first white space that is not at the front
abbrev pub first_word : List ℕ → List ℕ
first_word text = before_first is_white_space (trimmed_start text)

-- the text after it
abbrev pub after_first_word : List ℕ → List ℕ
after_first_word text = drop (length (first_word text)) (trimmed_start text)

-- at most n words of a text
abbrev pub words_upto : ℕ → List ℕ → List (List ℕ)
words_upto zero text = []
words_upto (suc n) text = if length (first_word text) == 0 then [] else first_word text ∷ words_upto n (after_first_word text)

-- all words of a text, which are fewer than its bytes
abbrev pub words_in : List ℕ → List (List ℕ)
words_in text = words_upto (length text) text

-- the word begins with a sign, and is not `--`
abbrev pub is_tag_word : List ℕ → Bool
is_tag_word [] = false
is_tag_word (sign ∷ encoded) = (sign == 43 || sign == 45) && not (same_text (sign ∷ encoded) (codes "--"))

-- what a tag word asks for: `+` sets the tag, `-` takes it off
abbrev pub op_of : List ℕ → Option TagOp
op_of [] = None
op_of (sign ∷ encoded) = elim (decoded_tag encoded) [ Some tag ↦ Some (record { add = sign == 43; tag = tag }) | None ↦ None ]

-- a `--` may come before the query
abbrev pub query_after : List ℕ → List ℕ
query_after text = trimmed (if same_text (first_word text) (codes "--") then after_first_word text else text)

-- one operation before others, where all are there
abbrev pub with_op : Option TagOp → Option (List TagOp × List ℕ) → Option (List TagOp × List ℕ)
with_op (Some op) (Some (ops, query)) = Some (op ∷ ops, query)
with_op (Some op) None = None
with_op None asked = None

-- what at most n tag words at the front ask for, and the query after them; nothing where one of them has no tag
abbrev pub asked_upto : ℕ → List ℕ → Option (List TagOp × List ℕ)
asked_upto zero text = Some ([], query_after text)
asked_upto (suc n) text =
    if is_tag_word (first_word text) then with_op (op_of (first_word text)) (asked_upto n (after_first_word text)) else Some ([], query_after text)

-- what all tag words at the front ask for, and the query after them; a text has fewer words than bytes
abbrev pub asked_in : List ℕ → Option (List TagOp × List ℕ)
asked_in text = asked_upto (length text) text

-- The operations and the query, unless there are no operations (where tags are cleared there need not be any) or there is no query.
abbrev pub asked_by : Bool → List TagOp → List ℕ → Result (List TagOp × List ℕ) LineKind
asked_by clear ops query =
    if length ops == 0 && not clear then Err kinds.Form
    else (if length query == 0 then Err kinds.Query else Ok (ops, query))

-- what a line asks for, or its first fault: a tag, then its form, then its query
abbrev pub read_line : Bool → List ℕ → Result (List TagOp × List ℕ) LineKind
read_line clear text = elim (asked_in text) [ Some asked ↦ asked_by clear asked.0 asked.1 | None ↦ Err kinds.Tag ]

-- the text begins a comment
abbrev pub begins_comment : List ℕ → Bool
begins_comment [] = false
begins_comment (first ∷ others) = first == 35

-- an empty line, or a comment: its first byte after white space is `#`
abbrev pub is_passed_over : List ℕ → Bool
is_passed_over line = length line == 0 || begins_comment (trimmed_start line)

-- what one line asks for, nothing where it is passed over, or its fault
abbrev pub classified : Bool → List ℕ → Result (Option (List TagOp × List ℕ)) LineKind
classified clear line =
    if not (is_utf8 line) then Err kinds.Utf8
    else (if is_passed_over line then Ok None
    else elim (read_line clear line) [ Ok asked ↦ Ok (Some asked) | Err kind ↦ Err kind ])

-- what one line asks for, before what is read of the lines after it
abbrev pub then_lines : ℕ → Result (Option (List TagOp × List ℕ)) LineKind → Result (List TagLine) (ℕ × LineKind) → Result (List TagLine) (ℕ × LineKind)
then_lines number (Ok None) read = read
then_lines number (Ok (Some asked)) (Ok read) = Ok (record { line = number; ops = asked.0; query = asked.1 } ∷ read)
then_lines number (Ok (Some asked)) (Err fault) = Err fault
then_lines number (Err kind) read = Err (number, kind)

-- what the lines ask for, the first of them having this number, or the first fault with the number of its line
abbrev pub read_lines : Bool → ℕ → List (List ℕ) → Result (List TagLine) (ℕ × LineKind)
read_lines clear number [] = Ok []
read_lines clear number (line ∷ more) = then_lines number (classified clear line) (read_lines clear (number + 1) more)

-- lines are ended by LF or CR LF, and counted from 1
abbrev pub batch_lines : List ℕ → Bool → Result (List TagLine) (ℕ × LineKind)
batch_lines bytes clear = read_lines clear 1 (lines bytes)

-- why lines may be refused: the first fault that they have, or memory ran out
abbrev pub IsLineFault : Result (List TagLine) (ℕ × LineKind) → LineError → Type 0
IsLineFault answer (faults.BadLine line kind) = answer ≡ Err (line, kind)
IsLineFault answer faults.NoMemory = Unit {0}
