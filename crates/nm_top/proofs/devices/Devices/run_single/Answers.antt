use Rattle.std.proofs.Common.{Bool, ◌∷◌, [], ap}
use Rattle.nm_history.specs.Call.{phases_by, single_phase}
use Rattle.nm_top.proofs.HistoryLemmas.{run-history}
use Rattle.nm_call.specs.declared.prepared_call.PreparedCall.TheVariants.{Command}
use Rattle.nm_top.proofs.devices.Devices.run_single.Goals as goal

pub returns-clause-history : goal.returns-clause-history
returns-clause-history g c = λ words old new read.
    let lent = c.args.self.now in
    let after = c.run_command-run.new in
    run-history c.refusal_laws.ensures (Command c.args.prepared) words c.args.crew.now.setting.now (g.M.Maildir.observed lent.mail.now) (g.M.Maildir.observed after.mail)
    (g.D.Disk.observed lent.disk.now) (g.D.Disk.observed after.disk) old new (g.O.Sink.observed lent.out.now) (g.O.Sink.observed after.out) (g.E.Sink.observed lent.err.now) (g.E.Sink.observed c.end_run.new.err)
    read (single_phase words read.input ∷ []) c.run_command-run.result (ap (λ (b : Bool). phases_by b words read.input) read.session)
    (c.run_command-run.ensures.ran words read.input read.asks) c.run_command-run.ensures.refused c.run_command-run.ensures.unprinted c.end_run.result c.end_run.ensures
