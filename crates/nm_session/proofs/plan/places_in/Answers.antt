use Rattle.std.proofs.Common.{arith}
use Rattle.nm_session.proofs.TurnLemmas.{places-more}
use Rattle.nm_session.proofs.plan.places_in.Goals as goal

pub phases-preserved : goal.phases-preserved
phases-preserved c =
    omega (arith, c.in_ok-places.ensures, c.len.ensures, places-more c.args.phases.now c.phases.phase-index c.phase-item.result c.phases-test.true c.phase-item.is, c.phases.invariant)
