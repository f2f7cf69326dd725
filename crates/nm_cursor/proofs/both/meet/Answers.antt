use Rattle.std.proofs.Common.{rules, sym, ap, ◌∙◌}
use Rattle.nm_cursor.specs.Sets.{intersection}
use Rattle.nm_cursor.proofs.BothLemmas.{first_ended, intersection_none, leapt, leapt_same, met, none_shared, second_ended}
use Rattle.nm_cursor.proofs.FromLemmas.{from_rises, shorter}
use Rattle.nm_cursor.proofs.both.meet.Goals as goal

pub returns-then-found-wanted-clause-taken : goal.returns-then-found-wanted-clause-taken
returns-then-found-wanted-clause-taken g c = sym c.leaps.invariant.0 ∙ met _ _ _ _ _ c.leaps.invariant.1 c.in-Some.ensures.taken c.if-found-wanted.true

pub returns-in-None-clause-taken : goal.returns-in-None-clause-taken
returns-in-None-clause-taken g c = (
  sym c.leaps.invariant.0 ∙ first_ended _ _ _ _ _ c.leaps.invariant.1 c.in-Some.ensures.rising c.in-Some.ensures.taken c.if-found-wanted.false c.in-None.ensures.taken.0,
  ap (λ docs. intersection docs (g.B.Cursor.left c.seek.new.self)) c.in-None.ensures.taken.1 ∙ intersection_none _,
)

pub returns-in-Some-seek-clause-taken : goal.returns-in-Some-seek-clause-taken
returns-in-Some-seek-clause-taken g c = sym c.leaps.invariant.0
    ∙ leapt_same _ _ _ _ _ _ _ c.leaps.invariant.1 c.in-Some.ensures.rising c.in-Some.ensures.taken c.if-found-wanted.false c.in-Some-seek.ensures.taken c.if-next-found.true

pub leaps-smaller : goal.leaps-smaller
leaps-smaller g c = shorter _ _ _ _ c.in-Some-seek.ensures.taken

pub leaps-preserved : goal.leaps-preserved
leaps-preserved g c = (
  leapt _ _ _ _ _ _ _ c.leaps.invariant.1 c.in-Some.ensures.rising c.in-Some.ensures.taken c.if-found-wanted.false c.in-Some-seek.ensures.taken c.if-next-found.false ∙ c.leaps.invariant.0,
  from_rises _ _ _ _ c.in-Some-seek.ensures.taken c.in-Some-seek.ensures.rising,
  search rules,
)

pub returns-clause-taken : goal.returns-clause-taken
returns-clause-taken g c = (
  sym c.leaps.invariant.0 ∙ second_ended _ _ _ c.leaps.invariant.1 c.in_default.ensures.taken.0,
  ap (intersection (g.A.Cursor.left c.leaps.first)) c.in_default.ensures.taken.1 ∙ none_shared _,
)
