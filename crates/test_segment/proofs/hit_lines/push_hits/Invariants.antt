use Rattle.std.proofs.Common.{length}
use Rattle.test_segment.proofs.hit_lines.push_hits.Given as goal

abbrev pub invariant-stretches : goal.invariant-stretches
invariant-stretches l = Unit {0}

abbrev pub decreases-stretches : goal.decreases-stretches
decreases-stretches l = length l.rest
