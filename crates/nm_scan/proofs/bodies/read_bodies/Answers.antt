use Rattle.std.proofs.lemmas.Result.{err_from_is_err_and}
use Rattle.nm_scan.proofs.BodyLemmas.{begun_bodies, more_in_turn, stopped_in_turn}
use Rattle.nm_scan.proofs.bodies.read_bodies.Goals as goal

pub paths-init : goal.paths-init
paths-init g c = begun_bodies (g.M.Maildir.observed c.args.mail.now) c.args.left c.args.given.now

pub returns-in_err-rest-clause-err : goal.returns-in_err-rest-clause-err
returns-in_err-rest-clause-err g c =
    let mail = g.M.Maildir in
    let p = err_from_is_err_and c.from_residual.result c.from_residual.ensures.1 in
    rw (p.1, p.2)
    (stopped_in_turn (mail.observed c.args.mail.now) (mail.observed c.paths.mail) (mail.observed c.read_body.new.mail) c.args.left c.paths.rest c.args.given.now c.paths.given c.read_body.new.given c.args.paths.now c.paths.path-index
    c.path-item.result c.paths-test.true c.path-item.is c.paths.invariant c.in_err-rest.field-0.0 c.in_err-rest.ensures.err)

pub paths-preserved : goal.paths-preserved
paths-preserved g c =
    let mail = g.M.Maildir in
    more_in_turn (mail.observed c.args.mail.now) (mail.observed c.paths.mail) (mail.observed c.read_body.new.mail) c.args.left c.paths.rest c.args.given.now c.paths.given c.read_body.new.given c.args.paths.now c.paths.path-index
    c.path-item.result c.paths-test.true c.path-item.is c.paths.invariant c.in_ok-rest.rest c.in_ok-rest.ensures.ok
