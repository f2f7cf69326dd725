use Rattle.std.proofs.Common.{subst}
use Rattle.nm_cursor.specs.Sets.{IsRising}
use Rattle.nm_cursor.proofs.SetLemmas.{rising-union}
use Rattle.nm_cursor.proofs.EitherLemmas.{either_none, either_some}
use Rattle.nm_cursor.proofs.either.EitherCursor.seek.Goals as goal

pub returns-in-None-clause-taken : goal.returns-in-None-clause-taken
returns-in-None-clause-taken g c = either_none _ _ _ _ _ _ _ _ c.self.view_is c.reach-first.ensures.rising c.reach-second.ensures.rising
    c.reach-first.ensures.rest c.reach-second.ensures.rest c.reach-first.ensures.first c.reach-second.ensures.first c.in-None.ensures

pub returns-in-None-clause-rising : goal.returns-in-None-clause-rising
returns-in-None-clause-rising g c = subst IsRising c.self.view_is (rising-union _ _ c.reach-first.ensures.rising)

pub returns-in-Some-clause-taken : goal.returns-in-Some-clause-taken
returns-in-Some-clause-taken g c = rw (c.leave.ensures.rest, c.leave-in-Some.ensures.rest) (either_some _ _ _ _ _ _ _ _ _ c.self.view_is c.reach-first.ensures.rising c.reach-second.ensures.rising
    c.reach-first.ensures.rest c.reach-second.ensures.rest c.reach-first.ensures.first c.reach-second.ensures.first c.in-Some.ensures)

pub returns-in-Some-clause-rising : goal.returns-in-Some-clause-rising
returns-in-Some-clause-rising g c = subst IsRising c.self.view_is (rising-union _ _ c.reach-first.ensures.rising)
