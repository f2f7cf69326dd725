-- Why the lines of an input are refused. Cited by `lines`, `queries` and `taggings`.
use Rattle.std.specs.Prelude.{◌≡◌, ℕ, Result, Err}
use Rattle.nm_tags.specs.declared.line_error.LineError.{LineError}
use Rattle.nm_tags.specs.declared.line_error.LineError.TheVariants as faults
use Rattle.nm_tags.specs.declared.line_error.LineKind.{LineKind}

-- the first fault that the lines have, or memory ran out
abbrev pub IsFirstFault : {T : Type 0} → Result T (ℕ × LineKind) → LineError → Type 0
IsFirstFault read (faults.BadLine line kind) = read ≡ Err (line, kind)
IsFirstFault read faults.NoMemory = Unit {0}
