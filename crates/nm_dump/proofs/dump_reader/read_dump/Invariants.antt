use Rattle.std.proofs.Common.{◌≡◌, ◌+◌, length}
use Rattle.std.specs.Str.Lines.{lines}
use Rattle.nm_model_answer.specs.DumpLines.{read_dump, read_lines}
use Rattle.nm_dump.proofs.DumpLemmas.{with_lines}
use Rattle.nm_dump.proofs.dump_reader.read_dump.Given as goal

-- what was read, and what is read of the rest, are all
abbrev pub invariant-lines : goal.invariant-lines
invariant-lines l = with_lines l.read (read_lines l.form (l.number + 1) (lines l.rest)) ≡ read_dump l.bytes l.fn.form

abbrev pub decreases-lines : goal.decreases-lines
decreases-lines l = length l.rest
