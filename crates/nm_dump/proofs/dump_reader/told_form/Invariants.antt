use Rattle.std.proofs.Common.{◌≡◌, length}
use Rattle.std.specs.Str.Lines.{lines}
use Rattle.nm_model_answer.specs.DumpLines.{told_form}
use Rattle.nm_dump.proofs.dump_reader.told_form.Given as goal

-- the rest tells it too
abbrev pub invariant-lines : goal.invariant-lines
invariant-lines l = told_form (lines l.rest) ≡ told_form (lines l.bytes)

abbrev pub decreases-lines : goal.decreases-lines
decreases-lines l = length l.rest
