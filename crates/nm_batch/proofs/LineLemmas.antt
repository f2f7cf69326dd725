-- What is read of the lines of an input, line by line. For the proof of `read_lines`.
use Rattle.std.proofs.Common.{◌≡◌, ℕ, List, [], ◌∷◌, ◌++◌, refl, ap, Some, Result, Ok, Err, append_assoc}
use Rattle.nm_model_answer.specs.BatchLines.{then_read}
use Rattle.nm_tags.specs.declared.line_error.LineKind.{LineKind}

-- what was read, before what else is read
abbrev pub with_lines : {T : Type 0} → List T → Result (List T) (ℕ × LineKind) → Result (List T) (ℕ × LineKind)
with_lines before (Ok read) = Ok (before ++ read)
with_lines before (Err fault) = Err fault

-- a line more is read after those before it
pub with_one_line : {T : Type 0} (before : List T) (number : ℕ) (item : T) (read : Result (List T) (ℕ × LineKind))
    → with_lines (before ++ item ∷ []) read ≡ with_lines before (then_read number (Ok (Some item)) read)
with_one_line before number item (Ok read) = ap Ok (append_assoc before (item ∷ []) read)
with_one_line before number item (Err fault) = refl
