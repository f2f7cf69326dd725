use Rattle.nm_filter.proofs.KeptLemmas.{rising-kept, seek_none, seek_some}
use Rattle.nm_filter.proofs.kept.KeptCursor.seek.Goals as goal

pub returns-in-None-clause-taken : goal.returns-in-None-clause-taken
returns-in-None-clause-taken g c = seek_none (g.P.Condition.holds c.self.inside.condition) (g.C.Cursor.left c.self.inside.inner) _ _ c.self.view_is _ c.in-None.ensures.taken.0 c.in-None.ensures.taken.1

pub returns-in-None-clause-rising : goal.returns-in-None-clause-rising
returns-in-None-clause-rising g c = rising-kept (g.P.Condition.holds c.self.inside.condition) (g.C.Cursor.left c.self.inside.inner) _ c.self.view_is c.in-None.ensures.rising

pub returns-in-Some-clause-taken : goal.returns-in-Some-clause-taken
returns-in-Some-clause-taken g c = seek_some (g.P.Condition.holds c.self.inside.condition) (g.C.Cursor.left c.self.inside.inner) _ (g.C.Cursor.left c.seek.new.self) c.self.view_is c.args.doc _ _ _ c.in-Some.ensures.taken c.pass.ensures.taken

pub returns-in-Some-clause-rising : goal.returns-in-Some-clause-rising
returns-in-Some-clause-rising g c = rising-kept (g.P.Condition.holds c.self.inside.condition) (g.C.Cursor.left c.self.inside.inner) _ c.self.view_is c.in-Some.ensures.rising
