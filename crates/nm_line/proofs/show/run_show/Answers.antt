use Rattle.std.proofs.Common.{Ok, Err, subst}
use Rattle.nm_model_index.specs.declared.base.Base.{Base}
use Rattle.nm_line.specs.ShowAnswer.{IsAfterShow}
use Rattle.nm_line.proofs.ShowLemmas.{shown-ends, unshown-ends}
use Rattle.nm_line.proofs.show.run_show.Goals as goal

pub returns-in-Ok-clause-ends : goal.returns-in-Ok-clause-ends
returns-in-Ok-clause-ends g c = λ line h.
    let moment = c.args.crew.now.setting.now.moment in
    let desk = c.args.desk.now in
    let old = g.M.Maildir.observed desk.mail.now in
    let new = g.M.Maildir.observed c.show_messages.new.mail in
    shown-ends moment desk.writer.now old new (g.D.Disk.observed desk.disk.now).faults c.args.left line c.show_messages.new.given c.args.ask c.args.query.now h.asks h.made
    c.in-Ok.text c.replied.result
    (subst (λ (index : Base). IsAfterShow c.args.ask index moment c.args.query.now c.args.left old new c.show_messages.new.given (Ok c.in-Ok.text)) c.snapshot.ensures c.in-Ok.ensures.after)
    c.in-Ok.ensures.cause c.replied.ensures

pub returns-in-Err-clause-ends : goal.returns-in-Err-clause-ends
returns-in-Err-clause-ends g c = λ line h.
    let moment = c.args.crew.now.setting.now.moment in
    let desk = c.args.desk.now in
    let old = g.M.Maildir.observed desk.mail.now in
    let new = g.M.Maildir.observed c.show_messages.new.mail in
    unshown-ends moment desk.writer.now old new (g.D.Disk.observed desk.disk.now).faults c.args.left line c.show_messages.new.given c.args.ask c.args.query.now h.asks h.made
    c.in-Err.fault c.refuse_show.result
    (subst (λ (index : Base). IsAfterShow c.args.ask index moment c.args.query.now c.args.left old new c.show_messages.new.given (Err c.in-Err.fault)) c.snapshot.ensures c.in-Err.ensures.after)
    c.in-Err.ensures.cause c.refuse_show.ensures.some c.refuse_show.ensures.refused
