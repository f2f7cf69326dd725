use Rattle.std.proofs.Common.{rules, ℕ, List, Ok, Err, Result, ap, ◌∙◌, subst}
use Rattle.nm_top.proofs.HistoryLemmas.{line-history, unasked-history}
use Rattle.nm_prepare.specs.Prepared.{AsksAlone}
use Rattle.nm_call.specs.PreparedCall.{HasError, HasPhases, IsReadAs}
use Rattle.nm_call.specs.declared.prepared_call.CallError.{CallError}
use Rattle.nm_call.specs.declared.prepared_call.CallError.TheVariants as errors
use Rattle.nm_call.specs.declared.prepared_call.PreparedCall.{PreparedCall}
use Rattle.nm_call.specs.declared.prepared_call.PreparedCall.TheVariants.{Command}
use Rattle.nm_top.proofs.devices.Devices.run.Goals as goal

pub run_single-requires : goal.run_single-requires
run_single-requires g c =
    let read : HasPhases c.requires.words c.requires.old c.requires.new (Command c.in-Ok-Command.prepared) =
    subst (λ (r : Result PreparedCall CallError). IsReadAs c.requires.words c.requires.old c.requires.new r) (c.in-Ok-Command.is ∙ ap Ok c.in-Ok-Command.field-0-is) c.requires.is in
    let asked : (words : List (List ℕ)) × ((input : List ℕ) × AsksAlone words input c.in-Ok-Command.prepared) = (c.requires.words, (read.input, read.asks)) in
    search (rules, asked)

pub returns-in-Err-Unasked-clause-history : goal.returns-in-Err-Unasked-clause-history
returns-in-Err-Unasked-clause-history g c = λ words old new read.
    let lent = c.args.self.now in
    let cause : HasError words old new (errors.Unasked c.in-Err-Unasked.outcome) =
    subst (λ (r : Result PreparedCall CallError). IsReadAs words old new r) (c.in-Err-Unasked.is ∙ ap Err c.in-Err-Unasked.field-0-is) read in
    line-history c.refusal_laws.ensures c.in-Err-Unasked.outcome cause.1.0 words c.args.crew.now.setting.now (g.M.Maildir.observed lent.mail.now) (g.D.Disk.observed lent.disk.now) old new
    (g.O.Sink.observed lent.out.now) (g.E.Sink.observed lent.err.now) (g.E.Sink.observed c.refuse_line.new.err) (g.D.Disk.reads_an_image lent.disk.now) cause.0 cause.1.1
    c.faults.result c.faults-in-Err-Unasked.result c.faults.ensures c.faults-in-Err-Unasked.ensures c.refuse_line.result c.refuse_line.ensures

pub returns-in-Err-Refused-clause-history : goal.returns-in-Err-Refused-clause-history
returns-in-Err-Refused-clause-history g c = λ words old new read.
    let lent = c.args.self.now in
    let cause : HasError words old new (errors.Refused c.in-Err-Refused.refusal) =
    subst (λ (r : Result PreparedCall CallError). IsReadAs words old new r) (c.in-Err-Refused.is ∙ ap Err c.in-Err-Refused.field-0-is) read in
    unasked-history c.refusal_laws.ensures c.in-Err-Refused.refusal cause.0 words c.args.crew.now.setting.now (g.M.Maildir.observed lent.mail.now) (g.D.Disk.observed lent.disk.now) old new
    (g.O.Sink.observed lent.out.now) (g.E.Sink.observed lent.err.now) (g.E.Sink.observed c.refuse.new.err) (g.D.Disk.reads_an_image lent.disk.now) cause.1 c.refuse.result c.refuse.ensures
