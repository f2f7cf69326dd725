use Rattle.std.proofs.Common.{subst}
use Rattle.nm_cursor.specs.Sets.{IsRising}
use Rattle.nm_cursor.proofs.SetLemmas.{rising-symmetric_difference}
use Rattle.nm_cursor.proofs.OneLemmas.{one_reached}
use Rattle.nm_cursor.proofs.one.OneCursor.seek.Goals as goal

pub returns-clause-taken : goal.returns-clause-taken
returns-clause-taken g c = one_reached _ _ _ _ _ _ _ _ c.self.view_is c.reach.ensures.rising c.reach-2.ensures.rising c.reach.ensures.rest c.reach-2.ensures.rest c.differ.ensures.taken

pub returns-clause-rising : goal.returns-clause-rising
returns-clause-rising g c = subst IsRising c.self.view_is (rising-symmetric_difference _ _ c.reach.ensures.rising)
