use Rattle.std.proofs.Common.{◌≡◌, ◌+◌, ◌-◌, ◌≤◌, drop, length}
use Rattle.nm_query.specs.Terms.{before_dots}
use Rattle.nm_query.proofs.terms.before_dots.Given as goal

abbrev pub invariant-places : goal.invariant-places
invariant-places l = (l.at + before_dots (drop l.at l.text) ≡ before_dots l.text) × (l.at ≤ length l.text)

abbrev pub decreases-places : goal.decreases-places
decreases-places l = length l.text - l.at
