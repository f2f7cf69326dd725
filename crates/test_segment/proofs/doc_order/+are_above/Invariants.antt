use Rattle.std.proofs.Common.{length}
use Rattle.test_segment.proofs.doc_order.+are_above.Given as goal

abbrev pub decreases-are_above : goal.decreases-are_above
decreases-are_above l = length l.docs.now
