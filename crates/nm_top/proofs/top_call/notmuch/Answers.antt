use Rattle.std.proofs.Common.{rules, refl, sym, ◌∙◌, subst}
use Rattle.nm_history.specs.Call.{call_of, devices}
use Rattle.nm_log.specs.declared.log.Setting.{Setting}
use Rattle.nm_call.specs.PreparedCall.{WasRead}
use Rattle.nm_top.specs.Drill.{DrillEnds}
use Rattle.nm_top.proofs.DrillLemmas.{as-drill}
use Rattle.nm_top.proofs.top_call.notmuch.Goals as goal

pub returns-then-is_drill-clause-history : goal.returns-then-is_drill-clause-history
returns-then-is_drill-clause-history g c =
    let mail = g.M.Maildir.observed c.args.mail.now in
    let disk = g.D.Disk.observed c.args.disk.now in
    let input = g.I.Source.observed c.args.input.now in
    let out = g.O.Sink.observed c.args.out.now in
    let printed = g.O.Sink.observed c.drill.new.out in
    let err = g.E.Sink.observed c.args.err.now in
    let said = g.E.Sink.observed c.drill.new.err in
    as-drill (call_of c.args.words.now c.args.setting.now (devices mail disk input out err) (devices mail disk input printed said) c.drill.result) (sym c.is_drill.ensures ∙ c.if-is_drill.true) (record {
      mail = refl;
      disk = refl;
      input = refl;
      ends = subst (λ (setting : Setting). DrillEnds c.args.words.now setting c.drill.result out printed err said) c.new-crew.ensures c.drill.ensures;
    })

pub run-requires : goal.run-requires
run-requires g c =
    let read : WasRead c.read_call-call.result = record { words = c.args.words.now; old = g.I.Source.observed c.args.input.now; new = g.I.Source.observed c.read_call-call.new.input; is = c.read_call-call.ensures } in
    search (rules, read)
