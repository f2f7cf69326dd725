use Rattle.std.proofs.Common.{length}
use Rattle.test_segment.proofs.segment_rows.hits_left.Given as goal

abbrev pub invariant-hits : goal.invariant-hits
invariant-hits g l = Unit {0}

abbrev pub decreases-hits : goal.decreases-hits
decreases-hits g l = length l.postings
