use Rattle.std.proofs.Common.{length}
use Rattle.test_segment.proofs.doc_order.+rise_on.Given as goal

abbrev pub decreases-rise_on : goal.decreases-rise_on
decreases-rise_on l = length l.front.now
