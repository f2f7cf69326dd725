use Rattle.std.proofs.Common.{rules}
use Rattle.nm_scan.proofs.BodyLemmas.{stopped_at_note}
use Rattle.nm_scan.proofs.bodies.read_body.Goals as goal

pub returns-in_err-note-clause-err : goal.returns-in_err-note-clause-err
returns-in_err-note-clause-err g c =
    let mail = g.M.Maildir in
    let stopped =
    stopped_at_note (mail.observed c.args.mail.now) (mail.observed c.read.new.self) c.args.left c.args.given.now c.note.new.given c.args.path.now c.in_ok-got.got c.in_ok-got.ensures.keeps c.in_err-note.ensures.err in
    search (rules, stopped)
