use Rattle.std.proofs.Common.{◌≡◌, ◌<◌, true, length}
use Rattle.nm_blocks.specs.Hits.{is_rising}
use Rattle.nm_phrase.specs.Ends.{drop_before}
use Rattle.nm_phrase.proofs.follow.drop_before.Given as goal

-- the ends that are left lose as many as all do
abbrev pub invariant-leaps : goal.invariant-leaps
invariant-leaps l = (drop_before l.hit l.rest ≡ drop_before l.hit l.ends) × (is_rising l.rest ≡ true) × (0 < l.width)

abbrev pub decreases-leaps : goal.decreases-leaps
decreases-leaps l = length l.rest
