use Rattle.std.proofs.Common.{◌≡◌, ◌&&◌, Bool, is_some, not, ap, ◌∙◌}
use Rattle.nm_writer.specs.Writer.{WriterState}
use Rattle.nm_line.specs.Line.{newly_closed, place_at}
use Rattle.nm_scan.specs.Bodies.{left_after}
use Rattle.nm_phase.proofs.LineLemmas.{is-run}
use Rattle.nm_phase.proofs.line.line_log.Goals as goal

closed-is : (new old : WriterState) (failed was now : Bool) → failed ≡ (now && not was) → was ≡ is_some old.closed → now ≡ is_some new.closed → failed ≡ newly_closed old new
closed-is new old failed was now is before after =
    is ∙ (ap (λ b. b && not was) after ∙ ap (λ b. is_some new.closed && not b) before)

pub returns : goal.returns
returns g c =
    let old = place_at c.args.desk.now.writer.now (g.M.Maildir.observed c.args.desk.now.mail.now) (g.D.Disk.observed c.args.desk.now.disk.now) c.args.left in
    let done = c.answer-answered in
    let new = place_at done.new.desk.writer.now (g.M.Maildir.observed done.new.desk.mail.now) (g.D.Disk.observed done.new.desk.disk.now) (left_after c.args.left done.new.given) in
    record {
      run = λ line asked. is-run c.args.crew.now.setting.now.moment c.args.phase old new line done.new.given done.result c.answered_or-outcome.result c.args.fallback c.snapshot.result.now c.args.asked.lane c.args.asked.number c.revision.result c.line_status.result c.faults.result c.faults-2.result c.newly_closed.result
          asked.lane asked.number c.requires.fallback c.answered_or-outcome.ensures (done.ensures.ends line asked.prepared) c.revision.ensures c.snapshot.ensures c.line_status.ensures c.faults.ensures c.faults-2.ensures (closed-is done.new.desk.writer.now c.args.desk.now.writer.now c.newly_closed.result c.is_closed-was_closed.result c.is_closed.result c.newly_closed.ensures c.is_closed-was_closed.ensures c.is_closed.ensures);
      stands = done.ensures.stands;
      durable = done.ensures.durable;
      loans = done.ensures.loans;
    }
