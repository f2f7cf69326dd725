use Rattle.std.proofs.Common.{sym, ap, subst, ◌∙◌}
use Rattle.nm_cursor.specs.Sets.{IsRising, from}
use Rattle.nm_cursor.proofs.FromLemmas.{from_rises}
use Rattle.nm_cursor.proofs.PeekLemmas.{above_ended, above_rest, above_same, left_none, left_other, left_same}
use Rattle.nm_cursor.proofs.peek.Peek.leave.Goals as goal

pub returns-in_default-clause-had : goal.returns-in_default-clause-had
returns-in_default-clause-had g c = left_none _ _ (ap (from c.args.doc) (sym c.self.view_is) ∙ c.in_default.ensures.taken.0)

pub returns-in_default-clause-rest : goal.returns-in_default-clause-rest
returns-in_default-clause-rest g c = above_ended _ _ (subst IsRising c.self.view_is c.take_from.ensures.rising) (ap (from c.args.doc) (sym c.self.view_is) ∙ c.in_default.ensures.taken.0)

pub returns-then-found-doc-clause-had : goal.returns-then-found-doc-clause-had
returns-then-found-doc-clause-had g c = left_same _ _ _ _ (ap (from c.args.doc) (sym c.self.view_is) ∙ c.in-Some.ensures.taken) c.if-found-doc.true

pub returns-then-found-doc-clause-rest : goal.returns-then-found-doc-clause-rest
returns-then-found-doc-clause-rest g c = above_same _ _ _ _ (subst IsRising c.self.view_is c.take_from.ensures.rising) (ap (from c.args.doc) (sym c.self.view_is) ∙ c.in-Some.ensures.taken) c.if-found-doc.true

pub invariant_of-self-2 : goal.invariant_of-self-2
invariant_of-self-2 g c = from_rises _ _ _ _ c.in-Some.ensures.taken c.take_from.ensures.rising

pub returns-clause-had : goal.returns-clause-had
returns-clause-had g c = left_other _ _ _ _ (subst IsRising c.self.view_is c.take_from.ensures.rising) (ap (from c.args.doc) (sym c.self.view_is) ∙ c.in-Some.ensures.taken) c.if-found-doc.false

pub returns-clause-rest : goal.returns-clause-rest
returns-clause-rest g c = above_rest _ _ _ _ (subst IsRising c.self.view_is c.take_from.ensures.rising) (ap (from c.args.doc) (sym c.self.view_is) ∙ c.in-Some.ensures.taken) c.if-found-doc.false
