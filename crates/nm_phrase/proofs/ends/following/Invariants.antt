use Rattle.std.proofs.Common.{◌≤◌, filter, length}
use Rattle.nm_phrase.specs.Ends.{follows}
use Rattle.nm_phrase.proofs.FollowLemmas.{IsWalk}
use Rattle.nm_phrase.proofs.ends.following.Given as goal

abbrev pub invariant-hits : goal.invariant-hits
invariant-hits g l = IsWalk l.hits l.rest l.postings (filter (follows l.initial.rest) l.initial.postings) × (l.initial.steps ≤ l.steps)

abbrev pub decreases-hits : goal.decreases-hits
decreases-hits g l = length l.postings
