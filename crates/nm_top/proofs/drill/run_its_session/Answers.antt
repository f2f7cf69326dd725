use Rattle.std.proofs.Common.{rules, ℕ, List, [], ◌∷◌, codes, refl, ap, ◌∙◌}
use Rattle.nm_drill.specs.Drill.{drill_script}
use Rattle.nm_call.specs.PreparedCall.{WasRead}
use Rattle.nm_top.proofs.DrillLemmas.{log-is, sink_of, source_of}
use Rattle.nm_top.proofs.drill.run_its_session.Goals as goal

pub returns : goal.returns
returns g c =
    log-is c.args.count c.args.crew.now.setting.now c.in_ok-mail.mail c.in_ok-disk.disk c.new-input.result c.new-out.result c.new-err.result _ c.run.result
    c.in_ok-mail.ensures c.in_ok-disk.ensures
    (c.new-input.ensures ∙ (ap (λ (held : List ℕ). source_of held c.new.result) c.in_ok-script.ensures ∙ ap (source_of drill_script) c.new.ensures))
    (c.new-out.ensures ∙ ap sink_of c.new-2.ensures) (c.new-err.ensures ∙ ap sink_of c.new-3.ensures)
    (c.run.ensures.history (codes "session" ∷ []) _ _ (c.read_phases-call.ensures (codes "session" ∷ []) refl refl))

pub run-requires : goal.run-requires
run-requires g c =
    let read : WasRead c.read_phases-call.result = record { words = codes "session" ∷ []; old = _; new = _; is = c.read_phases-call.ensures (codes "session" ∷ []) refl refl } in
    search (rules, read)
