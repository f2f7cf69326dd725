use Rattle.nm_scan.proofs.BatchLemmas.{one_found}
use Rattle.nm_scan.proofs.ReadLemmas.{asked_once, if_err}
use Rattle.nm_scan.specs.FileReads.{AsksOnce}
use Rattle.nm_scan.proofs.files.read_next.Goals as goal

pub returns-in_err-push-clause-err : goal.returns-in_err-push-clause-err
returns-in_err-push-clause-err g c =
    let mail = g.M.Maildir in
    if_err (AsksOnce (mail.observed c.args.mail.now) (mail.observed c.read.new.self) c.args.path) c.from_residual-in_err-push.result
    (asked_once (mail.observed c.args.mail.now) (mail.observed c.read.new.self) c.args.path c.read.result c.read.ensures.keeps.tree c.read.ensures.keeps.reads)

pub returns-clause-ok : goal.returns-clause-ok
returns-clause-ok g c =
    let mail = g.M.Maildir in (
      c.in_ok-got.got,
      c.in_ok-push.ensures.ok,
      one_found (mail.observed c.args.mail.now) (mail.observed c.read.new.self) c.args.path c.in_ok-got.got c.in_ok-got.ensures.got c.read.ensures.keeps.tree c.in_ok-got.ensures.keeps.reads c.in_ok-got.ensures.keeps.cause,
    )
