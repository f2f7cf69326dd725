use Rattle.std.proofs.Common.{length}
use Rattle.test_segment.proofs.segment_rows.push_words.Given as goal

abbrev pub invariant-words : goal.invariant-words
invariant-words g l = Unit {0}

abbrev pub decreases-words : goal.decreases-words
decreases-words g l = length l.words.words
