use Rattle.std.proofs.Common.{subst}
use Rattle.nm_cursor.specs.Sets.{IsRising}
use Rattle.nm_cursor.proofs.SetLemmas.{rising-intersection}
use Rattle.nm_cursor.proofs.BothLemmas.{both_none, both_some}
use Rattle.nm_cursor.proofs.FromLemmas.{from_rises}
use Rattle.nm_cursor.proofs.both.BothCursor.seek.Goals as goal

pub meet-requires : goal.meet-requires
meet-requires g c = from_rises _ _ _ _ c.in-Some.ensures.taken c.in-Some.ensures.rising

pub returns-in-None-clause-taken : goal.returns-in-None-clause-taken
returns-in-None-clause-taken g c = both_none _ _ _ _ _ c.self.view_is c.in-None.ensures.taken.0 c.in-None.ensures.taken.1

pub returns-in-None-clause-rising : goal.returns-in-None-clause-rising
returns-in-None-clause-rising g c = subst IsRising c.self.view_is (rising-intersection _ _ c.in-None.ensures.rising)

pub returns-in-Some-clause-taken : goal.returns-in-Some-clause-taken
returns-in-Some-clause-taken g c = both_some _ _ _ _ _ _ _ _ c.self.view_is c.in-Some.ensures.taken c.meet.ensures.taken

pub returns-in-Some-clause-rising : goal.returns-in-Some-clause-rising
returns-in-Some-clause-rising g c = subst IsRising c.self.view_is (rising-intersection _ _ c.in-Some.ensures.rising)
