use Rattle.std.proofs.Common.{◌≡◌, true, false}
use Rattle.nm_blocks.specs.Hits.{is_rising}
use Rattle.nm_phrase.specs.Ends.{drop_before, is_before_at}
use Rattle.nm_phrase.proofs.follow.drop_within.Given as goal

-- the ends that are left lose as many as all do, and fewer than the width
abbrev pub invariant-halves : goal.invariant-halves
invariant-halves l = (drop_before l.hit l.rest ≡ drop_before l.hit l.ends) × (is_rising l.rest ≡ true) × (is_before_at l.hit l.rest l.width ≡ false)

abbrev pub decreases-halves : goal.decreases-halves
decreases-halves l = l.width
