use Rattle.std.proofs.Common.{ℕ, ◌+◌, List, ◌++◌, length, sym, ap, ◌∙◌, subst, arith}
use Rattle.nm_scan.specs.Bodies.{left_after}
use Rattle.nm_lanes.specs.declared.script.ScriptLine.{ScriptLine}
use Rattle.nm_phase.specs.LineLog.{IsAskedBy, IsRun}
use Rattle.nm_line.specs.Line.{place_at}
use Rattle.nm_trace.specs.ReservedLog.{AreFallbacks}
use Rattle.nm_trace.specs.declared.trace.Mark.{Mark}
use Rattle.nm_phase.proofs.LineLemmas.{marks-are, marks-fit, marks-left}
use Rattle.nm_phase.proofs.line.run_line.Goals as goal

pub note-requires : goal.note-requires
note-requires g c =
    let line : ScriptLine = c.requires.asked.0 in
    let old = place_at c.args.desk.now.writer.now (g.M.Maildir.observed c.args.desk.now.mail.now) (g.D.Disk.observed c.args.desk.now.disk.now) c.args.left in
    let done = c.line_log-log in
    let new = place_at done.new.desk.writer.now (g.M.Maildir.observed done.new.desk.mail.now) (g.D.Disk.observed done.new.desk.disk.now) c.left_after-left.result in
    let run : IsRun c.args.crew.now.setting.now.moment c.args.phase old (line, done.result.0) done.result.1 new =
    subst (λ (n : ℕ). IsRun c.args.crew.now.setting.now.moment c.args.phase old (line, done.result.0) done.result.1 (place_at done.new.desk.writer.now (g.M.Maildir.observed done.new.desk.mail.now) (g.D.Disk.observed done.new.desk.disk.now) n))
    (sym (c.left_after-left.ensures ∙ ap (left_after c.args.left) c.as_slice.ensures)) (done.ensures.run line c.requires.asked.1) in
    record {
      logs = omega (arith, c.requires.spare.logs);
      marks = marks-fit c.args.crew.now.setting.now.moment c.args.phase old new (line, done.result.0) done.result.1 c.acked-before.result.now c.made_since-made.result c.args.reserved.now.marks.1 run c.acked-before.ensures.acked c.made_since-made.ensures.count
          (omega (arith, c.requires.spare.marks)) c.made_since-made.ensures.few;
    }

pub returns : goal.returns
returns g c =
    let old = place_at c.args.desk.now.writer.now (g.M.Maildir.observed c.args.desk.now.mail.now) (g.D.Disk.observed c.args.desk.now.disk.now) c.args.left in
    let done = c.line_log-log in
    let new = place_at done.new.desk.writer.now (g.M.Maildir.observed done.new.desk.mail.now) (g.D.Disk.observed done.new.desk.disk.now) c.left_after-left.result in
    let run : (line : ScriptLine) → IsAskedBy line c.args.asked → IsRun c.args.crew.now.setting.now.moment c.args.phase old (line, done.result.0) done.result.1 new =
    λ line asked. subst (λ (n : ℕ). IsRun c.args.crew.now.setting.now.moment c.args.phase old (line, done.result.0) done.result.1 (place_at done.new.desk.writer.now (g.M.Maildir.observed done.new.desk.mail.now) (g.D.Disk.observed done.new.desk.disk.now) n))
    (sym (c.left_after-left.ensures ∙ ap (left_after c.args.left) c.as_slice.ensures)) (done.ensures.run line asked) in
    record {
      noted = λ line asked.
          let here = run line asked in
          let are = marks-are c.args.crew.now.setting.now.moment c.args.phase old new (line, done.result.0) done.result.1 c.acked-before.result.now c.made_since-made.result here c.acked-before.ensures.acked c.made_since-made.ensures.count in
          record {
            log = done.result.0;
            reply = done.result.1;
            run = here;
            logs = c.note.ensures.logs;
            marks = c.note.ensures.marks ∙ ap (λ (l : List Mark). c.args.reserved.now.marks.0 ++ l) are;
            steps = c.note.ensures.steps;
            logs_spare = c.note.ensures.logs_spare;
            marks_spare = marks-left c.args.crew.now.setting.now.moment c.args.phase old new (line, done.result.0) done.result.1 c.acked-before.result.now c.made_since-made.result c.args.reserved.now.marks.1 c.note.new.self.marks.1 here c.acked-before.ensures.acked c.made_since-made.ensures.count
                c.note.ensures.marks_spare;
            fallbacks = ap (λ (l : List (List ℕ)). length l + 1) c.note.ensures.fallbacks ∙ c.take_fallback-fallback.ensures.length;
            texts = subst AreFallbacks (sym c.note.ensures.fallbacks) c.take_fallback-fallback.ensures.texts;
            within = c.made_since-made.ensures.few;
          };
      stands = done.ensures.stands;
      durable = done.ensures.durable;
      loans = done.ensures.loans;
    }
