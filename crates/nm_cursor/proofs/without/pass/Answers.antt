use Rattle.std.proofs.Common.{rules, sym, ap, ◌∙◌}
use Rattle.nm_cursor.specs.Sets.{difference}
use Rattle.nm_cursor.proofs.WithoutLemmas.{difference_none, pass_kept, pass_on}
use Rattle.nm_cursor.proofs.without.pass.Goals as goal

pub returns-in-None-clause-taken : goal.returns-in-None-clause-taken
returns-in-None-clause-taken g c = (
  sym c.had.invariant.0
      ∙ pass_on c.had.wanted (g.A.Cursor.left c.had.first) c.had.second c.leave.new.self c.had.invariant.1 c.leave.ensures.rest c.leave.result c.had-test.true c.leave.ensures.had
      ∙ ap (λ docs. difference docs c.leave.new.self) c.in-None.ensures.taken.0 ∙ difference_none _,
  ap (λ docs. difference docs c.leave.new.self) c.in-None.ensures.taken.1 ∙ difference_none _,
)

pub had-preserved : goal.had-preserved
had-preserved g c = (
  ap (λ docs. difference docs c.leave.new.self) (sym c.in-Some.ensures.taken)
      ∙ sym (pass_on c.had.wanted (g.A.Cursor.left c.had.first) c.had.second c.leave.new.self c.had.invariant.1 c.leave.ensures.rest c.leave.result c.had-test.true c.leave.ensures.had)
      ∙ c.had.invariant.0,
  rw c.in-Some.ensures.taken at c.in-Some.ensures.rising,
  search rules,
)

pub returns-clause-taken : goal.returns-clause-taken
returns-clause-taken g c = sym c.had.invariant.0
    ∙ pass_kept c.had.wanted (g.A.Cursor.left c.had.first) c.had.second c.leave.new.self c.had.invariant.1 c.leave.ensures.rest c.leave.result c.had-test.false c.leave.ensures.had
