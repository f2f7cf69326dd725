use Rattle.std.proofs.Common.{arith, sym, subst, ◌∙◌, List}
use Rattle.nm_phase.specs.Observations.{IsLaneAt}
use Rattle.std.specs.List.{AllByRecursion}
use Rattle.nm_phase.specs.declared.reader_lane.ReaderLane.{ReaderLane}
use Rattle.nm_session.proofs.ReaderLemmas.{all-by, popped}
use Rattle.nm_session.proofs.plan.lanes_with.Goals as goal

pub lanes-preserved : goal.lanes-preserved
lanes-preserved c = record {
  spare = omega (arith, c.add_lane.ensures.spare, c.lanes.invariant.spare);
  lanes = λ book h.
      let so_far = c.lanes.invariant.lanes book h in
      let rest = popped book c.lanes.readers c.pop.new.self c.pop.result c.pop.ensures so_far.0 in
      (rest.1, c.add_lane.ensures.lanes book rest.0 so_far.1);
}

pub returns : goal.returns
returns c = λ book h.
    let moment = c.args.setting.now.moment in
    let all = c.lanes.invariant.lanes book h in
    all-by (IsLaneAt moment c.args.phases.now 0 book) c.into_vec.result.items
    (subst (λ (l : List ReaderLane). AllByRecursion (IsLaneAt moment c.args.phases.now 0 book) l) (sym (c.into_vec.ensures ∙ c.into_many.ensures)) all.1)
