use Rattle.std.proofs.Common.{length}
use Rattle.test_segment.proofs.tier_rows.+are_counted.Given as goal

abbrev pub decreases-are_counted : goal.decreases-are_counted
decreases-are_counted g l = length l.tiers.now
