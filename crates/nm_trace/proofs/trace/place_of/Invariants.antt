use Rattle.std.proofs.Common.{◌-◌, length}
use Rattle.nm_trace.proofs.PlaceLemmas.{IsBehind}
use Rattle.nm_trace.proofs.trace.place_of.Given as goal

abbrev pub invariant-marks : goal.invariant-marks
invariant-marks l = IsBehind l.lane l.behind l.left l.marks (length l.marks - l.passed)
