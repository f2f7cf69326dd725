use Rattle.std.proofs.Common.{◌≡◌, ◌+◌, ◌≤◌, None, ◌++◌, length}
use Rattle.nm_lookup.specs.Lookup.{distinct}
use Rattle.nm_lookup.proofs.one_word.distinct.Given as goal

-- the documents so far, with those of the hits that are left, are all; each hit that was taken is a step
abbrev pub invariant-hits : goal.invariant-hits
invariant-hits g l = record {
  docs : l.docs ++ distinct l.last l.hits ≡ distinct None l.initial.hits;
  more : l.initial.steps ≤ l.steps;
  steps : l.steps + length l.hits ≡ l.initial.steps + length l.initial.hits;
}

abbrev pub decreases-hits : goal.decreases-hits
decreases-hits g l = length l.hits
