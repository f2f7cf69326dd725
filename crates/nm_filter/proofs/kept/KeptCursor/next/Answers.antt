use Rattle.nm_filter.proofs.KeptLemmas.{rising-kept}
use Rattle.nm_filter.proofs.kept.KeptCursor.next.Goals as goal

pub returns-in-Some-clause-rising : goal.returns-in-Some-clause-rising
returns-in-Some-clause-rising g c = rising-kept (g.P.Condition.holds c.self.inside.condition) (g.C.Cursor.left c.self.inside.inner) _ c.self.view_is c.in-Some.ensures.rising
