use Rattle.std.proofs.Common.{◌≡◌, ◌+◌, length}
use Rattle.std.specs.Str.Lines.{lines}
use Rattle.nm_tags.specs.TagLines.{batch_lines, read_lines}
use Rattle.nm_tags.proofs.LineLemmas.{with_lines}
use Rattle.nm_tags.proofs.batch.batch_lines.Given as goal

-- what was read, and what is read of the rest, are all
abbrev pub invariant-lines : goal.invariant-lines
invariant-lines l = record {
  read : with_lines l.read (read_lines l.clear (l.number + 1) (lines l.rest)) ≡ batch_lines l.bytes l.clear;
}

abbrev pub decreases-lines : goal.decreases-lines
decreases-lines l = length l.rest
