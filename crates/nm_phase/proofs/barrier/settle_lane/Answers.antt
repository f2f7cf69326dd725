use Rattle.std.proofs.Common.{rules, ◌≡◌, ◌==◌, true, ◌++◌, length, arith}
use Rattle.std.specs.Option.{option_to_list}
use Rattle.std.specs.Vec.Iter.{into_iter_items}
use Rattle.std.proofs.lemmas.Bool.Decides.{nat_tests}
use Rattle.nm_phase.specs.LaneLog.{IsLaneReadNoted}
use Rattle.nm_phase.proofs.BarrierLemmas.{lane_read-spare, lane_read-taken}
use Rattle.nm_phase.proofs.ObservationLemmas.{got, known-next, known-rest}
use Rattle.nm_phase.proofs.barrier.settle_lane.Goals as goal

pub settle_line-requires-clause-observation : goal.settle_line-requires-clause-observation
settle_line-requires-clause-observation c =
    let are : into_iter_items c.lines.rest ≡ option_to_list c.next.result ++ into_iter_items c.next.new.self = search rules in
    let line = c.index-lines-at.result in
    let may = known-next c.args.end.now.setting.now.moment c.args.lines.now c.lines.at line c.args.end.now.writer.now.published (into_iter_items c.lines.rest) (into_iter_items c.next.new.self) c.next.result
    (got c.args.lines.now c.lines.at line c.lines-test.true c.index-lines-at.is) are c.lines.invariant.observations in
    search (rules, may)

pub settle_line-requires-clause-spare : goal.settle_line-requires-clause-spare
settle_line-requires-clause-spare c =
    let line = c.index-lines-at.result in
    let own : (line.lane == c.args.lane) ≡ true = grind (arith, nat_tests, c.if-line-lane.false) in
    let one = lane_read-spare (length c.args.end.now.writer.now.begun) c.args.lane c.args.lines.now c.lines.at line c.lines.reserved c.lines-test.true c.index-lines-at.is own c.lines.invariant.spare in
    search (rules, one)

pub lines-preserved : goal.lines-preserved
lines-preserved c =
    let moment = c.args.end.now.setting.now.moment in
    let lines = c.args.lines.now in
    let line = c.index-lines-at.result in
    let lane = c.args.lane in
    let so_far = c.lines.invariant in
    let own : (line.lane == lane) ≡ true = grind (arith, nat_tests, c.if-line-lane.false) in
    let is_lane : line.lane ≡ lane = grind (arith, nat_tests, own) in
    let are : into_iter_items c.lines.rest ≡ option_to_list c.next.result ++ into_iter_items c.next.new.self = search rules in
    let lane_answer : IsLaneReadNoted moment c.args.end.now.phase c.args.end.now.writer.now line c.lines.reserved c.settle_line.new.reserved = search rules in
    let done = lane_read-taken moment c.args.end.now.phase c.args.end.now.writer.now lane lines c.lines.at line c.args.reserved.now c.lines.reserved c.settle_line.new.reserved c.lines-test.true c.index-lines-at.is own
    (omega (arith, is_lane, c.requires.another)) lane_answer so_far.spare so_far.taken in
    record {
      observations = known-rest moment lines c.args.end.now.writer.now.published (into_iter_items c.lines.rest) (into_iter_items c.next.new.self) c.next.result are so_far.observations;
      whole = search rules;
      spare = done.spare;
      taken = done.taken;
    }
