use Rattle.std.proofs.Common.{Result, Ok, Err, refl, ap, ◌∙◌, subst}
use Rattle.nm_line.specs.Line.{place_at}
use Rattle.nm_prepare.specs.Prepared.{IsPrepared, IsPreparedAs}
use Rattle.nm_prepare.specs.declared.prepared.AskError.{AskError}
use Rattle.nm_prepare.specs.declared.prepared.Prepared.{Prepared}
use Rattle.nm_prepare.specs.declared.prepared.Prepared.TheVariants as ready
use Rattle.nm_line.proofs.AnswerLemmas.{found-no-memory, reading-ends, refused-ends-at}
use Rattle.nm_line.proofs.lane_zero.answer.Goals as goal
use Rattle.nm_log.specs.ParsedLine.{parse_line}

pub returns-in-Ok-New : goal.returns-in-Ok-New
returns-in-Ok-New g c = record {
  ends = λ line h.
      let made : IsPrepared (parse_line line) line.input ready.New = subst (λ (r : Result Prepared AskError). IsPreparedAs (parse_line line) line.input r) (c.in-Ok-New.is ∙ ap Ok c.in-Ok-New.field-0-is) h in
      c.run_new.ensures.ends c.args.crew.now.setting.now.moment c.args.left line made;
  stands = c.run_new.ensures.stands;
  durable = c.run_new.ensures.durable;
  loans = c.run_new.ensures.loans;
}

pub returns-in-Ok-Read : goal.returns-in-Ok-Read
returns-in-Ok-Read g c = record {
  ends = λ line h.
      let made : IsPrepared (parse_line line) line.input (ready.Read c.in-Ok-Read.reading) = subst (λ (r : Result Prepared AskError). IsPreparedAs (parse_line line) line.input r) (c.in-Ok-Read.is ∙ ap Ok c.in-Ok-Read.field-0-is) h in
      reading-ends c.args.crew.now.setting.now.moment (place_at c.args.desk.now.writer.now (g.M.Maildir.observed c.args.desk.now.mail.now) (g.D.Disk.observed c.args.desk.now.disk.now) c.args.left) line c.args.given.now
      c.in-Ok-Read.reading c.snapshot.result.now c.read_off.result c.requires.fresh made c.snapshot.ensures c.read_off.ensures;
  stands = c.requires.ready.1;
  durable = λ entry opening h. h;
  loans = (refl, refl, refl);
}

pub returns-in-Ok-Show : goal.returns-in-Ok-Show
returns-in-Ok-Show g c = record {
  ends = λ line h.
      let made : IsPrepared (parse_line line) line.input (ready.Show c.in-Ok-Show.ask c.in-Ok-Show.query) = subst (λ (r : Result Prepared AskError). IsPreparedAs (parse_line line) line.input r) (c.in-Ok-Show.is ∙ ap Ok c.in-Ok-Show.field-0-is) h in
      c.run_show.ensures.ends line made;
  stands = c.run_show.ensures.stands;
  durable = c.run_show.ensures.durable;
  loans = c.run_show.ensures.loans;
}

pub returns-in-Ok-Tag : goal.returns-in-Ok-Tag
returns-in-Ok-Tag g c = record {
  ends = λ line h.
      let made : IsPrepared (parse_line line) line.input (ready.Tag c.in-Ok-Tag.ask c.in-Ok-Tag.lines) = subst (λ (r : Result Prepared AskError). IsPreparedAs (parse_line line) line.input r) (c.in-Ok-Tag.is ∙ ap Ok c.in-Ok-Tag.field-0-is) h in
      c.run_tag.ensures.ends c.args.left line made;
  stands = c.run_tag.ensures.stands;
  durable = c.run_tag.ensures.durable;
  loans = c.run_tag.ensures.loans;
}

pub returns-in-Ok-Restore : goal.returns-in-Ok-Restore
returns-in-Ok-Restore g c = record {
  ends = λ line h.
      let made : IsPrepared (parse_line line) line.input (ready.Restore c.in-Ok-Restore.ask c.in-Ok-Restore.wanted) = subst (λ (r : Result Prepared AskError). IsPreparedAs (parse_line line) line.input r) (c.in-Ok-Restore.is ∙ ap Ok c.in-Ok-Restore.field-0-is) h in
      c.run_restore.ensures.ends c.args.left line made;
  stands = c.run_restore.ensures.stands;
  durable = c.run_restore.ensures.durable;
  loans = c.run_restore.ensures.loans;
}

pub returns-in-Err-Refused : goal.returns-in-Err-Refused
returns-in-Err-Refused g c = record {
  ends = λ line h.
      refused-ends-at c.args.crew.now.setting.now.moment (place_at c.args.desk.now.writer.now (g.M.Maildir.observed c.args.desk.now.mail.now) (g.D.Disk.observed c.args.desk.now.disk.now) c.args.left) line c.args.given.now
      c.in-Err-Refused.outcome c.refuse.result c.requires.fresh
      (subst (λ (r : Result Prepared AskError). IsPreparedAs (parse_line line) line.input r) (c.in-Err-Refused.is ∙ ap Err c.in-Err-Refused.field-0-is) h) c.refuse.ensures;
  stands = c.requires.ready.1;
  durable = λ entry opening h. h;
  loans = (refl, refl, refl);
}

pub returns-in-Err-NoMemory : goal.returns-in-Err-NoMemory
returns-in-Err-NoMemory g c = record {
  ends = λ line h.
      found-no-memory c.args.crew.now.setting.now.moment (place_at c.args.desk.now.writer.now (g.M.Maildir.observed c.args.desk.now.mail.now) (g.D.Disk.observed c.args.desk.now.disk.now) c.args.left) line c.args.given.now
      c.requires.fresh;
  stands = c.requires.ready.1;
  durable = λ entry opening h. h;
  loans = (refl, refl, refl);
}
