use Rattle.nm_phase.proofs.ObservationLemmas.{goes-far, pushed-observations, observation-of, observations-later}
use Rattle.nm_phase.proofs.reads.see_lines.Goals as goal

pub lines-preserved : goal.lines-preserved
lines-preserved c =
    let seen = c.see_line-observation in
    let observation = seen.result in
    let line = c.index-lines-at.result in
    record {
      grown = goes-far c.args.reader.now c.lines.reader seen.new.reader c.lines.invariant.grown seen.ensures.grown;
      observations = pushed-observations c.args.setting.now.moment c.args.lines.now seen.new.reader c.lines.observations observation c.push.new.self c.push.result
          (observations-later c.args.setting.now.moment c.args.lines.now c.lines.reader seen.new.reader c.lines.observations seen.ensures.grown c.lines.invariant.observations)
          (observation-of c.args.setting.now.moment c.args.lines.now c.lines.at line seen.new.reader observation c.lines-test.true c.index-lines-at.is seen.ensures.at seen.ensures.seen) c.push.ensures.ok c.push.ensures.err;
    }
