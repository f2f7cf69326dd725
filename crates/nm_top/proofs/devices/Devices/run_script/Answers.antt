use Rattle.std.proofs.Common.{◌∙◌}
use Rattle.nm_top.proofs.HistoryLemmas.{run-history}
use Rattle.nm_call.specs.declared.prepared_call.PreparedCall.TheVariants.{Script}
use Rattle.nm_top.proofs.devices.Devices.run_script.Goals as goal

pub returns-clause-history : goal.returns-clause-history
returns-clause-history g c = λ words old new read.
    let lent = c.args.self.now in
    let after = c.run_session-run.new in
    run-history c.refusal_laws.ensures (Script c.args.phases) words c.args.crew.now.setting.now (g.M.Maildir.observed lent.mail.now) (g.M.Maildir.observed after.mail)
    (g.D.Disk.observed lent.disk.now) (g.D.Disk.observed after.disk) old new (g.O.Sink.observed lent.out.now) (g.O.Sink.observed after.out) (g.E.Sink.observed lent.err.now) (g.E.Sink.observed c.end_run.new.err)
    read c.as_slice-phases.result.now c.run_session-run.result (c.as_slice-phases.ensures ∙ read.asks) c.run_session-run.ensures.ran c.run_session-run.ensures.refused c.run_session-run.ensures.unprinted c.end_run.result c.end_run.ensures
