use Rattle.std.proofs.Common.{length}
use Rattle.test_segment.proofs.doc_order.+all_are_few.Given as goal

abbrev pub decreases-all_are_few : goal.decreases-all_are_few
decreases-all_are_few l = length l.docs.now
