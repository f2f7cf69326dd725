use Rattle.std.proofs.Common.{length}
use Rattle.test_segment.proofs.doc_order.+have_rising_numbers.Given as goal

abbrev pub decreases-have_rising_numbers : goal.decreases-have_rising_numbers
decreases-have_rising_numbers l = length l.docs.now
