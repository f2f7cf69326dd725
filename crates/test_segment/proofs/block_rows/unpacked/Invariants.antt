use Rattle.std.proofs.Common.{length}
use Rattle.test_segment.proofs.block_rows.unpacked.Given as goal

abbrev pub invariant-hits : goal.invariant-hits
invariant-hits l = Unit {0}

abbrev pub decreases-hits : goal.decreases-hits
decreases-hits l = length l.left
