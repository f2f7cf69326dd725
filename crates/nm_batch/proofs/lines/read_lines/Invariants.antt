use Rattle.std.proofs.Common.{◌≡◌, ◌+◌, length}
use Rattle.std.specs.Str.Lines.{lines}
use Rattle.nm_model_answer.specs.BatchLines.{read_each}
use Rattle.nm_batch.proofs.LineLemmas.{with_lines}
use Rattle.nm_batch.proofs.lines.read_lines.Given as goal

-- what was read, and what is read of the rest, are all
abbrev pub invariant-lines : goal.invariant-lines
invariant-lines g l = let says = g.R.LineReader.says l.reader in record {
  read : with_lines l.items (read_each says (l.number + 1) (lines l.rest)) ≡ read_each says 1 (lines l.input);
}

abbrev pub decreases-lines : goal.decreases-lines
decreases-lines g l = length l.rest
