-- The lines of a dump, what they ask for, and the first that is none. Cited by `nm_dump`, `nm_top` and `nm_history`.
use Rattle.std.specs.Prelude.{◌≡◌, ℕ, ◌+◌, Bool, true, ◌==◌, ◌||◌, not, List, [], ◌∷◌, nat_eq, Option, Some, None, Result, Ok, Err, codes, if◌then◌else◌}
use Rattle.std.specs.List.{starts_with}
use Rattle.std.specs.Str.{is_utf8}
use Rattle.std.specs.Str.Lines.{lines}
use Rattle.nm_base.specs.declared.forms.DumpForm.{DumpForm}
use Rattle.nm_base.specs.declared.forms.DumpForm.TheVariants.{BatchTag, Sup}
use Rattle.nm_base.specs.declared.forms.ReadForm.{ReadForm}
use Rattle.nm_base.specs.declared.forms.ReadForm.TheVariants as forms
use Rattle.nm_base.specs.declared.tag_op.TagOp.{TagOp}
use Rattle.nm_text.specs.WhiteSpace.{trimmed_start}
use Rattle.nm_tags.specs.declared.line_error.LineError.{LineError}
use Rattle.nm_tags.specs.declared.line_error.LineError.TheVariants as faults
use Rattle.nm_tags.specs.declared.line_error.LineKind.{LineKind}
use Rattle.nm_tags.specs.declared.line_error.LineKind.TheVariants as kinds
use Rattle.nm_model_answer.specs.BatchTag.{read_batch_tag}
use Rattle.nm_model_answer.specs.Sup.{read_sup}
use Rattle.nm_tags.specs.declared.wanted.Wanted.{Wanted}

-- an empty line, or one that begins with `#`
abbrev pub is_passed_over : List ℕ → Bool
is_passed_over [] = true
is_passed_over (first ∷ others) = first == 35

-- the line has the form of tag changes: after white space it begins with `+` or `--`
abbrev pub begins_changes : List ℕ → Bool
begins_changes line = starts_with nat_eq (trimmed_start line) (codes "+") || starts_with nat_eq (trimmed_start line) (codes "--")

-- the form that the first line tells which is not passed over
abbrev pub told_form : List (List ℕ) → DumpForm
told_form [] = Sup
told_form (line ∷ more) = if is_passed_over line then told_form more else (if begins_changes line then BatchTag else Sup)

-- the form in which lines are read
abbrev pub form_of : ReadForm → List (List ℕ) → DumpForm
form_of forms.Auto input = told_form input
form_of forms.BatchTag input = BatchTag
form_of forms.Sup input = Sup

-- what a line asks for that is not passed over, or its first fault
abbrev pub read_line : DumpForm → List ℕ → Result (List ℕ × List TagOp) LineKind
read_line BatchTag text = read_batch_tag text
read_line Sup text = read_sup text

-- what one line asks for, nothing where it is passed over, or its fault
abbrev pub classified : DumpForm → List ℕ → Result (Option (List ℕ × List TagOp)) LineKind
classified form line =
    if not (is_utf8 line) then Err kinds.Utf8
    else (if is_passed_over line then Ok None
    else elim (read_line form line) [ Ok asked ↦ Ok (Some asked) | Err kind ↦ Err kind ])

-- what one line asks for, before what is read of the lines after it
abbrev pub then_lines : ℕ → Result (Option (List ℕ × List TagOp)) LineKind → Result (List Wanted) (ℕ × LineKind) → Result (List Wanted) (ℕ × LineKind)
then_lines number (Ok None) read = read
then_lines number (Ok (Some asked)) (Ok read) = Ok (record { line = number; id = asked.0; ops = asked.1 } ∷ read)
then_lines number (Ok (Some asked)) (Err fault) = Err fault
then_lines number (Err kind) read = Err (number, kind)

-- what the lines ask for, the first of them having this number, or the first fault with the number of its line
abbrev pub read_lines : DumpForm → ℕ → List (List ℕ) → Result (List Wanted) (ℕ × LineKind)
read_lines form number [] = Ok []
read_lines form number (line ∷ more) = then_lines number (classified form line) (read_lines form (number + 1) more)

-- lines are ended by LF or CR LF, and counted from 1
abbrev pub read_dump : List ℕ → ReadForm → Result (List Wanted) (ℕ × LineKind)
read_dump bytes form = read_lines (form_of form (lines bytes)) 1 (lines bytes)

-- why a dump may be refused: the first fault that its lines have, or memory ran out
abbrev pub IsDumpFault : Result (List Wanted) (ℕ × LineKind) → LineError → Type 0
IsDumpFault answer (faults.BadLine line kind) = answer ≡ Err (line, kind)
IsDumpFault answer faults.NoMemory = Unit {0}
