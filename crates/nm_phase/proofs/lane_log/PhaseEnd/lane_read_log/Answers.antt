use Rattle.nm_phase.proofs.LaneReadLemmas.{is-lane_answer}
use Rattle.nm_phase.proofs.lane_log.PhaseEnd.lane_read_log.Goals as goal

pub returns : goal.returns
returns c = λ moment index at answer.
    is-lane_answer c.what_a_lane_reads_is_said.ensures moment c.args.self.now.phase index c.args.line.now c.args.answered c.answered_or-outcome.result c.args.fallback c.args.revision c.line_status.result c.new.result c.requires.fallback c.answered_or-outcome.ensures answer at
    c.line_status.ensures c.new.ensures
