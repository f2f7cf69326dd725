use Rattle.std.proofs.Common.{◌≡◌, take}
use Rattle.nm_session.specs.Turns.{places_in}
use Rattle.nm_session.proofs.plan.places_in.Given as goal

abbrev pub invariant-phases : goal.invariant-phases
invariant-phases l = l.places ≡ places_in (take l.phase-index l.phases)
