use Rattle.std.specs.Vec.Iter.{into_iter_items}
use Rattle.nm_scan.proofs.BatchLemmas.{batch_noted, batch_stops, stops_noted}
use Rattle.nm_scan.proofs.NoteLemmas.{err_noted, noted_all, noted_some, ok_noted}
use Rattle.nm_scan.proofs.ReadLemmas.{if_err}
use Rattle.nm_scan.proofs.batch_reader.read_batch.Goals as goal

pub returns-in_ok-added-in-Ok-clause-ok : goal.returns-in_ok-added-in-Ok-clause-ok
returns-in_ok-added-in-Ok-clause-ok g c =
    let mail = g.M.Maildir in
    let told = c.in-Ok.ensures.ok in
    batch_noted (mail.observed c.args.mail.now) (mail.observed c.classify_batch.new.mail) c.args.given.now c.note_all.new.given (into_iter_items c.args.paths.now) (into_iter_items c.classify_batch.new.paths) told.found
    c.in_ok-added-in-Ok.added told.batch
    (noted_all told.found c.classify_batch.new.all.items c.args.given.now c.note_all.new.given c.in_ok-added-in-Ok.added told.each c.in_ok-added-in-Ok.ensures.ok.0 c.in_ok-added-in-Ok.ensures.ok.1)

pub returns-in_err-added-in-Ok-clause-err : goal.returns-in_err-added-in-Ok-clause-err
returns-in_err-added-in-Ok-clause-err g c =
    let mail = g.M.Maildir in
    let told = c.in-Ok.ensures.ok in
    if_err _ c.from_residual.result
    (batch_stops (mail.observed c.args.mail.now) (mail.observed c.classify_batch.new.mail) c.args.given.now c.note_all.new.given (into_iter_items c.args.paths.now) (into_iter_items c.classify_batch.new.paths) told.found told.batch
    (noted_some told.found c.classify_batch.new.all.items c.args.given.now c.note_all.new.given told.each c.in_err-added-in-Ok.ensures.err))

pub returns-in-Err-clause-err : goal.returns-in-Err-clause-err
returns-in-Err-clause-err g c =
    let mail = g.M.Maildir in
    let told = c.in-Err.ensures.err in
    stops_noted (mail.observed c.args.mail.now) (mail.observed c.classify_batch.new.mail) c.args.given.now c.note_all-in-Err.new.given (into_iter_items c.args.paths.now) told.found told.stops
    c.note_all-in-Err.result
    (ok_noted c.note_all-in-Err.result told.found c.classify_batch.new.all.items c.args.given.now c.note_all-in-Err.new.given told.each c.note_all-in-Err.ensures.ok)
    (err_noted c.note_all-in-Err.result told.found c.classify_batch.new.all.items c.args.given.now c.note_all-in-Err.new.given told.each c.note_all-in-Err.ensures.err)
