use Rattle.std.proofs.Common.{◌≡◌, ◌-◌, ◌≤◌, ℕ, length, map, refl, sym, ◌∙◌, subst, arith}
use Rattle.std.specs.List.{All, flat_map, range_with_len}
use Rattle.nm_history.specs.Call.{lines_of_lane}
use Rattle.nm_history.specs.LineResult.{Place}
use Rattle.nm_phase.specs.Taken.{AreTaken}
use Rattle.nm_trace.specs.ReservedLog.{HasSpare}
use Rattle.nm_phase.specs.Observations.{HasAnswered, KeepsLane}
use Rattle.nm_phase.specs.Turns.{planned_line}
use Rattle.nm_writer.specs.Writer.{WriterState}
use Rattle.nm_phase.proofs.BarrierLemmas.{any-place, lane-left, lane-spare, lane-taken}
use Rattle.nm_phase.proofs.ObservationLemmas.{lane-far, lane-same, zip-far, zip-same}
use Rattle.nm_phase.proofs.barrier.settle.Goals as goal

pub lanes-init : goal.lanes-init
lanes-init g c = record { writer = refl; kept = zip-same KeepsLane lane-same c.args.lanes.now; lane_answer = c.requires.lane_answer; spare = c.requires.spare; taken = λ place here. (refl, refl) }

pub settle_lane-requires-clause-spare : goal.settle_lane-requires-clause-spare
settle_lane-requires-clause-spare g c =
    let same : c.observations_of-observations.new.writer ≡ c.args.writer.now = c.observations_of-observations.ensures.writer ∙ c.lanes.invariant.writer in
    subst (λ (w : WriterState). HasSpare (length (lines_of_lane c.args.lines.now c.lanes.lane)) (length w.begun) c.lanes.reserved) (sym same)
    (lane-spare (length c.args.writer.now.begun) c.args.lines.now c.lanes.lane c.lanes.reserved c.lanes-test.true c.lanes.invariant.spare)

pub lanes-preserved : goal.lanes-preserved
lanes-preserved g c =
    let moment = c.args.crew.now.setting.now.moment in
    let lines = c.args.lines.now in
    let lane = c.lanes.lane in
    let writer = c.args.writer.now in
    let so_far = c.lanes.invariant in
    let observations = c.observations_of-observations in
    let same : observations.new.writer ≡ writer = observations.ensures.writer ∙ so_far.writer in
    let least : 1 ≤ lane = omega (arith, c.lanes.auto.lane) in
    let seen : All (HasAnswered moment lines c.lanes.writer.published.book) c.lanes.lanes =
    subst (λ (w : WriterState). All (HasAnswered moment lines w.published.book) c.lanes.lanes) (sym so_far.writer) so_far.lane_answer in
    let here : WriterState → Place = any-place in
    record {
      writer = same;
      kept = zip-far KeepsLane lane-far c.args.lanes.now c.lanes.lanes observations.new.lanes so_far.kept observations.ensures.lanes;
      lane_answer = subst (λ (w : WriterState). All (HasAnswered moment lines w.published.book) observations.new.lanes) so_far.writer (observations.ensures.lane_answer moment lines seen).0;
      spare = lane-left moment c.args.phase lines lane (here writer) c.lanes.reserved c.settle_lane.new.reserved c.lanes-test.true so_far.spare (c.settle_lane.ensures.taken (here writer) (sym same));
      taken = λ place is. lane-taken moment c.args.phase lines lane place c.args.reserved.now c.lanes.reserved c.settle_lane.new.reserved least (so_far.taken place is) (c.settle_lane.ensures.taken place (is ∙ sym same));
    }

pub returns-clause-taken : goal.returns-clause-taken
returns-clause-taken g c = λ place is.
    let all : c.lanes.lane - 1 ≡ 15 = omega (arith, c.lanes-test.false, c.lanes.auto.lane) in
    subst (λ (n : ℕ). AreTaken c.args.crew.now.setting.now.moment (map (planned_line c.args.phase) (flat_map (lines_of_lane c.args.lines.now) (range_with_len 1 n))) place c.args.reserved.now c.lanes.reserved place) all
    (c.lanes.invariant.taken place is)
