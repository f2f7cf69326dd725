use Rattle.std.proofs.Common.{◌≡◌, ◌+◌, ◌≤◌, length}
use Rattle.std.specs.List.{enumerate_from}
use Rattle.std.specs.Str.Lines.{lines}
use Rattle.nm_base.specs.Limits.{max_lines}
use Rattle.nm_lanes.specs.Script.{script_of}
use Rattle.nm_lanes.proofs.ReaderLemmas.{phases_with}
use Rattle.nm_lanes.proofs.script.read_script.Given as goal

-- what was read, and what is left, are all the lines
abbrev pub invariant-lines : goal.invariant-lines
invariant-lines l = record {
  read : phases_with l.reader (enumerate_from (l.number + 1) (lines l.rest)) ≡ (script_of l.bytes).phases;
  counted : l.number + length (lines l.rest) ≡ length (lines l.bytes);
  few : l.number ≤ max_lines;
}

abbrev pub decreases-lines : goal.decreases-lines
decreases-lines l = length l.rest
