use Rattle.std.proofs.Common.{subst}
use Rattle.nm_cursor.specs.Sets.{IsRising}
use Rattle.nm_cursor.proofs.SetLemmas.{rising-difference}
use Rattle.nm_cursor.proofs.FromLemmas.{from_rises}
use Rattle.nm_cursor.proofs.WithoutLemmas.{without_none, without_some}
use Rattle.nm_cursor.proofs.without.WithoutCursor.seek.Goals as goal

pub pass-requires : goal.pass-requires
pass-requires g c = from_rises _ _ _ _ c.in-Some.ensures.taken c.in-Some.ensures.rising

pub returns-in-None-clause-taken : goal.returns-in-None-clause-taken
returns-in-None-clause-taken g c = without_none _ _ _ _ _ c.self.view_is c.in-None.ensures.taken.0 c.in-None.ensures.taken.1

pub returns-in-None-clause-rising : goal.returns-in-None-clause-rising
returns-in-None-clause-rising g c = subst IsRising c.self.view_is (rising-difference _ _ c.in-None.ensures.rising)

pub returns-in-Some-clause-taken : goal.returns-in-Some-clause-taken
returns-in-Some-clause-taken g c = without_some _ _ _ _ _ _ _ _ c.self.view_is c.in-Some.ensures.taken c.pass.ensures.taken

pub returns-in-Some-clause-rising : goal.returns-in-Some-clause-rising
returns-in-Some-clause-rising g c = subst IsRising c.self.view_is (rising-difference _ _ c.in-Some.ensures.rising)
