use Rattle.std.proofs.Common.{◌≡◌, ◌≤◌, ◌++◌, length}
use Rattle.nm_phrase.proofs.ends.all_hits.Given as goal

-- the hits so far, with those that are left, are all
abbrev pub invariant-hits : goal.invariant-hits
invariant-hits g l = (l.hits ++ l.postings ≡ l.initial.postings) × (l.initial.steps ≤ l.steps)

abbrev pub decreases-hits : goal.decreases-hits
decreases-hits g l = length l.postings
