use Rattle.std.proofs.Common.{◌≡◌, ◌+◌, ◌-◌, ◌≤◌, drop, length}
use Rattle.std.specs.List.{position_or_len}
use Rattle.nm_query.specs.Values.{ends_of}
use Rattle.nm_query.proofs.values.run_len.Given as goal

abbrev pub invariant-places : goal.invariant-places
invariant-places l = (l.at + position_or_len (ends_of l.ends) (drop l.at l.text) ≡ position_or_len (ends_of l.ends) l.text) × (l.at ≤ length l.text)

abbrev pub decreases-places : goal.decreases-places
decreases-places l = length l.text - l.at
