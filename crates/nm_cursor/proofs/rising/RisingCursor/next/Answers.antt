use Rattle.std.proofs.Common.{subst}
use Rattle.nm_cursor.specs.Sets.{IsRising}
use Rattle.nm_cursor.proofs.RisingLemmas.{rising-drop}
use Rattle.nm_cursor.proofs.rising.RisingCursor.next.Goals as goal

pub returns-in-None-clause-rising : goal.returns-in-None-clause-rising
returns-in-None-clause-rising g c = subst IsRising c.self.view_is (rising-drop _ _ c.self.invariant.0)

pub returns-in-Some-clause-rising : goal.returns-in-Some-clause-rising
returns-in-Some-clause-rising g c = subst IsRising c.self.view_is (rising-drop _ _ c.self.invariant.0)
