use Rattle.std.proofs.Common.{rules, sym, ◌∙◌}
use Rattle.nm_cursor.proofs.OneLemmas.{agrees, differs, pair_ended, pair_left_out, pair_shorter, pair_taken}
use Rattle.nm_cursor.proofs.one.differ.Goals as goal

pub returns-then-in_first-in_second-clause-taken : goal.returns-then-in_first-in_second-clause-taken
returns-then-in_first-in_second-clause-taken g c = rw (c.leave-in_first.ensures.rest, c.leave-in_second.ensures.rest) (sym c.pairs.invariant.0
    ∙ pair_taken c.pairs.first c.pairs.second c.reach.new.self c.reach-in-pairs.new.self c.reach.result c.reach-in-pairs.result
    (record { near_is = c.reach.ensures.rest; far_is = c.reach-in-pairs.ensures.rest; left_rises = c.reach.ensures.rising; right_rises = c.reach-in-pairs.ensures.rising; first_is = c.reach.ensures.first; second_is = c.reach-in-pairs.ensures.first })
    c.in-Some.found c.in-Some.ensures (λ same. differs _ _ c.if-in_first-in_second.true (c.leave-in_first.ensures.had ∙ same ∙ sym c.leave-in_second.ensures.had)))

pub pairs-smaller : goal.pairs-smaller
pairs-smaller g c = rw (c.leave-in_first.ensures.rest, c.leave-in_second.ensures.rest) (pair_shorter c.pairs.first c.pairs.second c.reach.new.self c.reach-in-pairs.new.self c.reach.result c.reach-in-pairs.result
    (record { near_is = c.reach.ensures.rest; far_is = c.reach-in-pairs.ensures.rest; left_rises = c.reach.ensures.rising; right_rises = c.reach-in-pairs.ensures.rising; first_is = c.reach.ensures.first; second_is = c.reach-in-pairs.ensures.first })
    c.in-Some.found c.in-Some.ensures)

pub pairs-preserved : goal.pairs-preserved
pairs-preserved g c = (
  rw (c.leave-in_first.ensures.rest, c.leave-in_second.ensures.rest) (pair_left_out c.pairs.first c.pairs.second c.reach.new.self c.reach-in-pairs.new.self c.reach.result c.reach-in-pairs.result
      (record { near_is = c.reach.ensures.rest; far_is = c.reach-in-pairs.ensures.rest; left_rises = c.reach.ensures.rising; right_rises = c.reach-in-pairs.ensures.rising; first_is = c.reach.ensures.first; second_is = c.reach-in-pairs.ensures.first })
      c.in-Some.found c.in-Some.ensures (sym c.leave-in_first.ensures.had ∙ agrees _ _ c.if-in_first-in_second.false ∙ c.leave-in_second.ensures.had) ∙ c.pairs.invariant.0),
  search rules,
)

pub returns-clause-taken : goal.returns-clause-taken
returns-clause-taken g c = (
  sym c.pairs.invariant.0 ∙ (pair_ended c.pairs.first c.pairs.second c.reach.new.self c.reach-in-pairs.new.self c.reach.result c.reach-in-pairs.result
      (record { near_is = c.reach.ensures.rest; far_is = c.reach-in-pairs.ensures.rest; left_rises = c.reach.ensures.rising; right_rises = c.reach-in-pairs.ensures.rising; first_is = c.reach.ensures.first; second_is = c.reach-in-pairs.ensures.first })
      c.in_default.ensures).0,
  (pair_ended c.pairs.first c.pairs.second c.reach.new.self c.reach-in-pairs.new.self c.reach.result c.reach-in-pairs.result
      (record { near_is = c.reach.ensures.rest; far_is = c.reach-in-pairs.ensures.rest; left_rises = c.reach.ensures.rising; right_rises = c.reach-in-pairs.ensures.rising; first_is = c.reach.ensures.first; second_is = c.reach-in-pairs.ensures.first })
      c.in_default.ensures).1,
)
