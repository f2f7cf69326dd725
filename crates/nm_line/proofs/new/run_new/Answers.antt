use Rattle.std.proofs.Common.{List, Ok, Err, refl, subst}
use Rattle.nm_log.specs.declared.outcome.Outcome.TheVariants as outcomes
use Rattle.nm_maildir.specs.declared.given.Given.{Given}
use Rattle.nm_scan.specs.Bodies.{left_after}
use Rattle.nm_scan.specs.Scan.{AsksNew}
use Rattle.nm_sync.specs.Noted.{since}
use Rattle.nm_writer.specs.New.{IsAfterNew}
use Rattle.nm_line.specs.Line.{place_at}
use Rattle.nm_line.proofs.AnswerLemmas.{failed-ends}
use Rattle.nm_line.proofs.ChangeLemmas.{write-refused}
use Rattle.nm_line.proofs.NewLemmas.{asks-as, new-answered, new-ends, new-unasked}
use Rattle.nm_line.proofs.new.run_new.Goals as goal

pub returns-in_err-texts : goal.returns-in_err-texts
returns-in_err-texts g c = record {
  ends = λ moment left line asked. failed-ends moment (place_at c.args.desk.now.writer.now (g.M.Maildir.observed c.args.desk.now.mail.now) (g.D.Disk.observed c.args.desk.now.disk.now) left) line c.args.given.now c.from_residual.result c.from_residual.ensures.0 c.requires.fresh;
  stands = c.requires.ready.1;
  durable = λ entry opening h. h;
  loans = (refl, refl, refl);
}

pub returns-in-Ok : goal.returns-in-Ok
returns-in-Ok g c =
    let noted = c.new_mail.new.given in
    let h = c.in-Ok.ensures in
    let was = c.args.desk.now.writer.now in
    let asks = subst (λ (l : List Given). AsksNew (g.M.Maildir.observed c.args.desk.now.mail.now) (g.M.Maildir.observed c.new_mail.new.mail) was.shown.files (since l noted)) c.requires.fresh h.asks in
    let after = subst (λ (l : List Given). IsAfterNew (g.M.Maildir.observed c.args.desk.now.mail.now).tree (since l noted) was (g.D.Disk.observed c.new_mail.new.disk).faults (Ok c.in-Ok.report) c.new_mail.new.self) c.requires.fresh h.after in
    record {
      ends = λ moment left line asked.
          let old = place_at c.args.desk.now.writer.now (g.M.Maildir.observed c.args.desk.now.mail.now) (g.D.Disk.observed c.args.desk.now.disk.now) left in
          let new = place_at c.new_mail.new.self (g.M.Maildir.observed c.new_mail.new.mail) (g.D.Disk.observed c.new_mail.new.disk) (left_after left noted) in
          let unasked = new-unasked _ c.args.desk.now.writer.now.closed old.mail.tree noted c.args.desk.now.writer.now c.new_mail.new.self new.disk_faults (Ok c.in-Ok.report) line.input old.mail new.mail after h.closed in
          new-ends moment old new line noted asked.asks refl asks h.tree unasked c.in-Ok.report c.reply_new.result
          (new-answered moment old new line noted asked.asks refl asks h.tree unasked _ _ _ after h.closed h.mail_cause h.disk_cause c.requires.ready.0) after.1 c.reply_new.ensures;
      stands = h.stands;
      durable = h.durable;
      loans = (refl, refl, refl);
    }

pub returns-in-Err : goal.returns-in-Err
returns-in-Err g c =
    let noted = c.new_mail.new.given in
    let h = c.in-Err.ensures in
    let was = c.args.desk.now.writer.now in
    let asks = subst (λ (l : List Given). AsksNew (g.M.Maildir.observed c.args.desk.now.mail.now) (g.M.Maildir.observed c.new_mail.new.mail) was.shown.files (since l noted)) c.requires.fresh h.asks in
    let after = subst (λ (l : List Given). IsAfterNew (g.M.Maildir.observed c.args.desk.now.mail.now).tree (since l noted) was (g.D.Disk.observed c.new_mail.new.disk).faults (Err c.in-Err.error) c.new_mail.new.self) c.requires.fresh h.after in
    record {
      ends = λ moment left line asked.
          let old = place_at c.args.desk.now.writer.now (g.M.Maildir.observed c.args.desk.now.mail.now) (g.D.Disk.observed c.args.desk.now.disk.now) left in
          let new = place_at c.new_mail.new.self (g.M.Maildir.observed c.new_mail.new.mail) (g.D.Disk.observed c.new_mail.new.disk) (left_after left noted) in
          let unasked = new-unasked _ c.args.desk.now.writer.now.closed old.mail.tree noted c.args.desk.now.writer.now c.new_mail.new.self new.disk_faults (Err c.in-Err.error) line.input old.mail new.mail after h.closed in
          write-refused moment old new line noted c.in-Err.error c.refuse_write.result
          (new-answered moment old new line noted asked.asks refl asks h.tree unasked _ _ _ after h.closed h.mail_cause h.disk_cause c.requires.ready.0)
          (asks-as moment old new line noted asked.asks refl asks h.tree unasked outcomes.NoMemory) c.refuse_write.ensures;
      stands = h.stands;
      durable = h.durable;
      loans = (refl, refl, refl);
    }
