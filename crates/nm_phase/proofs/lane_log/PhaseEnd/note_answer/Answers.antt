use Rattle.std.proofs.Common.{ℕ, ◌+◌, List, ◌++◌, drop, length, sym, ap, ◌∙◌, subst, take}
use Rattle.nm_history.specs.Lines.{RunLine}
use Rattle.nm_trace.specs.ReservedLog.{AreFallbacks}
use Rattle.nm_trace.specs.declared.trace.Mark.{Mark}
use Rattle.nm_phase.proofs.LaneReadLemmas.{lane_read-marks}
use Rattle.nm_phase.proofs.lane_log.PhaseEnd.note_answer.Goals as goal

pub returns : goal.returns
returns c = λ moment index at answer.
    let ran : RunLine = (c.args.line.now, c.lane_read_log-log.result.0) in
    let reply = c.lane_read_log-log.result.1 in
    let lane_read = c.lane_read_log-log.ensures moment index at answer in
    record {
      log = c.lane_read_log-log.result.0;
      reply = reply;
      lane_read = lane_read;
      logs = c.note_lane_read.ensures.logs;
      marks = c.note_lane_read.ensures.marks
          ∙ ap (λ (l : List Mark). take c.args.at c.args.reserved.now.marks.0 ++ (l ++ drop c.args.at c.args.reserved.now.marks.0)) (lane_read-marks moment c.args.self.now.phase index ran reply lane_read);
      steps = c.note_lane_read.ensures.steps;
      logs_spare = c.note_lane_read.ensures.logs_spare;
      marks_spare = c.note_lane_read.ensures.marks_spare;
      fallbacks = ap (λ (l : List (List ℕ)). length l + 1) c.note_lane_read.ensures.fallbacks ∙ c.take_fallback-fallback.ensures.length;
      texts = subst AreFallbacks (sym c.note_lane_read.ensures.fallbacks) c.take_fallback-fallback.ensures.texts;
    }
