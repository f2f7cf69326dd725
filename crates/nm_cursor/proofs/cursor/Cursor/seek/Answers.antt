use Rattle.std.proofs.Common.{rules, sym, ◌∙◌}
use Rattle.nm_cursor.proofs.FromLemmas.{ended, skipped, sought}
use Rattle.nm_cursor.proofs.cursor.Cursor.seek.Goals as goal

pub returns-then-found-doc-clause-taken : goal.returns-then-found-doc-clause-taken
returns-then-found-doc-clause-taken g c = sym c.below.invariant.0 ∙ sought _ _ _ _ c.in-Some.ensures.taken c.if-found-doc.true c.in-Some.ensures.rising

pub returns-then-found-doc-clause-rising : goal.returns-then-found-doc-clause-rising
returns-then-found-doc-clause-rising g c = c.below.invariant.1 c.in-Some.ensures.rising

pub below-preserved : goal.below-preserved
below-preserved g c = (skipped _ _ _ _ c.in-Some.ensures.taken c.if-found-doc.false ∙ c.below.invariant.0, λ _. c.below.invariant.1 c.in-Some.ensures.rising, search rules)

pub returns-clause-taken : goal.returns-clause-taken
returns-clause-taken g c = (sym c.below.invariant.0 ∙ ended _ _ c.in_default.ensures.taken.0, c.in_default.ensures.taken.1)

pub returns-clause-rising : goal.returns-clause-rising
returns-clause-rising g c = c.below.invariant.1 c.in_default.ensures.rising
