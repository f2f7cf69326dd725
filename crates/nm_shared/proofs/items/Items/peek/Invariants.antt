use Rattle.std.proofs.Common.{◌≡◌, ◌++◌, length}
use Rattle.nm_shared.specs.Runs.{flat}
use Rattle.nm_shared.proofs.items.Items.peek.Given as goal

abbrev pub invariant-runs : goal.invariant-runs
invariant-runs g l = l.self-inside.front.now ++ flat l.self-inside.rest.now ≡ l.initial.self-inside.front.now ++ flat l.initial.self-inside.rest.now

abbrev pub decreases-runs : goal.decreases-runs
decreases-runs g l = length l.self-inside.rest.now
