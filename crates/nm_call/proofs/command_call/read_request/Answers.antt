use Rattle.std.proofs.Common.{rules, ◌≡◌, [], List, ℕ, false, Err, Result, refl, ap, subst, sym, ◌∙◌}
use Rattle.nm_history.specs.Refusals.{TakesInput}
use Rattle.nm_prepare.specs.Prepared.{IsPreparedAs}
use Rattle.nm_prepare.specs.declared.prepared.AskError.{AskError}
use Rattle.nm_prepare.specs.declared.prepared.Prepared.{Prepared}
use Rattle.nm_log.specs.ParsedLine.{reads_input}
use Rattle.nm_log.specs.declared.line_parser.ParsedLine.TheVariants as asked
use Rattle.nm_call.specs.PreparedCall.{IsReadAs}
use Rattle.nm_call.specs.declared.prepared_call.CallError.{CallError}
use Rattle.nm_call.specs.declared.prepared_call.PreparedCall.{PreparedCall}
use Rattle.nm_call.proofs.CommandLemmas.{is-read, is-refused, reading-sound}
use Rattle.nm_call.proofs.command_call.read_request.Goals as goal

pub returns-in_err-lines : goal.returns-in_err-lines
returns-in_err-lines g c = λ words single is.
    let e : c.from_residual.result ≡ Err c.in_err-lines.field-0.0 = search rules in
    let sound = reading-sound words c.args.request single is (g.I.Source.observed c.args.input.now) (g.I.Source.observed c.read_lines.new.input) [] c.in_err-lines.ensures.reads in
    subst (λ (r : Result PreparedCall CallError). IsReadAs words (g.I.Source.observed c.args.input.now) (g.I.Source.observed c.read_lines.new.input) r) (sym e) (c.in_err-lines.ensures.err words single sound is)

pub returns-in-Ok : goal.returns-in-Ok
returns-in-Ok g c = λ words single is.
    let old = g.I.Source.observed c.args.input.now in
    let new = g.I.Source.observed c.read_lines.new.input in
    is-read words c.args.request single is old new c.as_slice.result.now (reads_input c.args.request) refl
    (subst (λ (l : List ℕ). TakesInput (reads_input c.args.request) false l old new) (sym c.as_slice.ensures) c.in_ok-lines.ensures.takes) c.in-Ok.prepared c.in-Ok.ensures

pub returns-in-Err-Refused : goal.returns-in-Err-Refused
returns-in-Err-Refused g c = λ words single is.
    let old = g.I.Source.observed c.args.input.now in
    let new = g.I.Source.observed c.read_lines.new.input in
    is-refused words c.args.request single is old new c.as_slice.result.now c.a_call_that_reads_nothing_is_not_refused_for_its_input.ensures (reads_input c.args.request) refl
    (subst (λ (l : List ℕ). TakesInput (reads_input c.args.request) false l old new) (sym c.as_slice.ensures) c.in_ok-lines.ensures.takes) c.in-Err-Refused.outcome
    (subst (λ (r : Result Prepared AskError). IsPreparedAs (asked.Request c.args.request) c.as_slice.result.now r) (c.in-Err-Refused.is ∙ ap Err c.in-Err-Refused.field-0-is) c.prepare.ensures)

pub returns : goal.returns
returns g c = λ words single is. ([], λ _ _ _ _ _ _ _. tt)
