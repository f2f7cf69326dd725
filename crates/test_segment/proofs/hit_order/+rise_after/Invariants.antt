use Rattle.std.proofs.Common.{length}
use Rattle.test_segment.proofs.hit_order.+rise_after.Given as goal

abbrev pub decreases-rise_after : goal.decreases-rise_after
decreases-rise_after l = length l.hits.now
