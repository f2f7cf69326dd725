use Rattle.std.proofs.Common.{length}
use Rattle.test_segment.proofs.tier_rows.+has.Given as goal

abbrev pub decreases-has : goal.decreases-has
decreases-has l = length l.docs.now
