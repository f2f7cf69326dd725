-- The lines of an input: queries that are counted one by one, or changes of tags with the queries that they are for. The first line
-- that is neither passed over nor read is reported by its number, counted from 1.
-- Cited by `nm_batch`, `nm_top` and `nm_history`.
use Rattle.std.specs.Prelude.{ℕ, ◌+◌, Bool, List, [], ◌∷◌, Option, None, Some, Result, Ok, Err, if◌then◌else◌}
use Rattle.std.specs.Str.{is_utf8}
use Rattle.std.specs.Str.Lines.{lines}
use Rattle.nm_base.specs.declared.tag_op.TagOp.{TagOp}
use Rattle.nm_query.specs.Answers.{answer_of}
use Rattle.nm_query.specs.declared.query.Query.{Query}
use Rattle.nm_tags.specs.TagLines.{classified}
use Rattle.nm_tags.specs.declared.line_error.LineKind.{LineKind}
use Rattle.nm_tags.specs.declared.line_error.LineKind.TheVariants as kinds
use Rattle.nm_model_answer.specs.declared.tag_change.TagChange.{TagChange}

-- what a text is as the query of a line; whatever is wrong with it, it is no query
abbrev pub line_query : List ℕ → Result Query LineKind
line_query text = elim (answer_of text) [ Ok query ↦ Ok query | Err refusal ↦ Err kinds.Query ]

-- what is read of one line, before what is read of the lines after it
abbrev pub then_read : {T : Type 0} → ℕ → Result (Option T) LineKind → Result (List T) (ℕ × LineKind) → Result (List T) (ℕ × LineKind)
then_read number (Ok None) read = read
then_read number (Ok (Some first)) (Ok read) = Ok (first ∷ read)
then_read number (Ok (Some first)) (Err fault) = Err fault
then_read number (Err kind) read = Err (number, kind)

-- what is read of all lines, the first of them having this number, or the first fault with the number of its line
abbrev pub read_each : {T : Type 0} → (List ℕ → Result (Option T) LineKind) → ℕ → List (List ℕ) → Result (List T) (ℕ × LineKind)
read_each read number [] = Ok []
read_each read number (line ∷ more) = then_read number (read line) (read_each read (number + 1) more)

-- ---- queries

-- a line is a query, and an empty one finds all messages
abbrev pub count_line : List ℕ → Result (Option Query) LineKind
count_line line =
    if is_utf8 line then elim (line_query line) [ Ok query ↦ Ok (Some query) | Err kind ↦ Err kind ] else Err kinds.Utf8

-- the queries of an input
abbrev pub queries_in : List ℕ → Result (List Query) (ℕ × LineKind)
queries_in input = read_each count_line 1 (lines input)

-- ---- changes of tags

-- what a line asks for whose words are read
abbrev pub tagging_by : Bool → List TagOp → List ℕ → Result (Option TagChange) LineKind
tagging_by clear ops text = elim (line_query text) [ Ok query ↦ Ok (Some (record { clear = clear; ops = ops; query = query })) | Err kind ↦ Err kind ]

-- what a line asks for, nothing where it is passed over, or its fault: its words come before its query
abbrev pub tag_line : Bool → List ℕ → Result (Option TagChange) LineKind
tag_line clear line = elim (classified clear line) [ Ok None ↦ Ok None | Ok (Some asked) ↦ tagging_by clear asked.0 asked.1 | Err kind ↦ Err kind ]

-- the changes of an input
abbrev pub taggings_in : Bool → List ℕ → Result (List TagChange) (ℕ × LineKind)
taggings_in clear input = read_each (tag_line clear) 1 (lines input)
