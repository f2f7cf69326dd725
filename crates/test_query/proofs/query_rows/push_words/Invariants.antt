use Rattle.std.proofs.Common.{length}
use Rattle.test_query.proofs.query_rows.push_words.Given as goal

abbrev pub invariant-words : goal.invariant-words
invariant-words l = Unit {0}

abbrev pub decreases-words : goal.decreases-words
decreases-words l = length l.rest
