use Rattle.std.proofs.Common.{◌≡◌}
use Rattle.nm_phase.proofs.barrier.observations_of.Given as goal

abbrev pub invariant-lanes : goal.invariant-lanes
invariant-lanes l = l.lanes ≡ l.initial.lanes
