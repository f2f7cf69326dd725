use Rattle.std.proofs.Common.{◌≡◌, ◌≤◌, length}
use Rattle.nm_cursor.specs.Sets.{symmetric_difference, union}
use Rattle.nm_cursor.proofs.one.differ.Given as goal

abbrev pub invariant-pairs : goal.invariant-pairs
invariant-pairs g l = (symmetric_difference l.first l.second ≡ symmetric_difference l.initial.first l.initial.second) × (l.initial.steps ≤ l.steps)

abbrev pub decreases-pairs : goal.decreases-pairs
decreases-pairs g l = length (union l.first l.second)
