use Rattle.std.proofs.Common.{List, ap, arith, get_or, length, slice_set, subst, sym, ◌<◌}
use Rattle.std.specs.List.{All, AllZip}
use Rattle.nm_publish.specs.Published.{Published}
use Rattle.nm_phase.specs.Observations.{AreKnown, HasAnswered, KeepsLane}
use Rattle.nm_phase.specs.declared.reader_lane.ReaderLane.{ReaderLane}
use Rattle.nm_phase.proofs.ObservationLemmas.{all-set, got, lane-same, zip-same, zip-set}
use Rattle.nm_phase.proofs.barrier.observations_of.Goals as goal

pub returns-then-lanes-at-clause-lanes : goal.returns-then-lanes-at-clause-lanes
returns-then-lanes-at-clause-lanes c =
    let lane = c.index-lanes-at-then-lanes-at.result in
    let within : c.lanes.at < length c.lanes.lanes = omega (arith, c.lanes-test.true, ap (λ (l : List ReaderLane). length l) c.lanes.invariant) in
    subst (λ (l : List ReaderLane). AllZip KeepsLane l (slice_set c.lanes.lanes c.lanes.at c.hand_over.new.lane)) c.lanes.invariant
    (zip-set KeepsLane lane-same c.lanes.lanes c.lanes.at lane c.hand_over.new.lane (got c.lanes.lanes c.lanes.at lane within c.index-lanes-at-then-lanes-at.is) (subst (λ (l : ReaderLane). KeepsLane l c.hand_over.new.lane) (sym c.index-lanes-at-then-lanes-at.is) c.hand_over.ensures.kept))

pub returns-then-lanes-at-clause-lane_answer : goal.returns-then-lanes-at-clause-lane_answer
returns-then-lanes-at-clause-lane_answer c = λ moment lines h.
    let lane = c.index-lanes-at-then-lanes-at.result in
    let book = c.args.writer.now.published.book in
    let within : c.lanes.at < length c.lanes.lanes = omega (arith, c.lanes-test.true, ap (λ (l : List ReaderLane). length l) c.lanes.invariant) in
    let all : All (HasAnswered moment lines book) c.lanes.lanes = subst (λ (l : List ReaderLane). All (HasAnswered moment lines book) l) (sym c.lanes.invariant) h in
    let own : HasAnswered moment lines book lane = subst (HasAnswered moment lines book) (sym c.index-lanes-at-then-lanes-at.is) (all c.lanes.at lane within) in
    let shown = c.tell-shown.ensures.shown in
    let done = c.hand_over.ensures.lane_answer moment lines (subst (λ (p : Published). HasAnswered moment lines p.book (get_or c.lanes.lanes c.lanes.at lane)) (sym shown) (subst (HasAnswered moment lines book) c.index-lanes-at-then-lanes-at.is own)) in (
      all-set (HasAnswered moment lines book) c.lanes.lanes c.lanes.at c.hand_over.new.lane all (subst (λ (p : Published). HasAnswered moment lines p.book c.hand_over.new.lane) shown done.0),
      subst (λ (p : Published). AreKnown moment lines p c.hand_over.result) shown done.1,
    )

pub returns-clause-lanes : goal.returns-clause-lanes
returns-clause-lanes c = subst (λ (l : List ReaderLane). AllZip KeepsLane c.args.lanes.now l) (sym c.lanes.invariant) (zip-same KeepsLane lane-same c.args.lanes.now)
