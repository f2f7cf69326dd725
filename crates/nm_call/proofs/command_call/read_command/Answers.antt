use Rattle.std.proofs.Common.{rules, ◌≡◌, [], Err, Result, subst, sym, ◌∙◌}
use Rattle.nm_log.specs.declared.refusal.Refusal.TheVariants as refusals
use Rattle.nm_call.specs.PreparedCall.{IsReadAs}
use Rattle.nm_call.specs.declared.prepared_call.CallError.{CallError}
use Rattle.nm_call.specs.declared.prepared_call.CallError.TheVariants as errors
use Rattle.nm_call.specs.declared.prepared_call.PreparedCall.{PreparedCall}
use Rattle.nm_call.proofs.CommandLemmas.{usage-refuses}
use Rattle.nm_call.proofs.command_call.read_command.Goals as goal

pub returns-in_err-word : goal.returns-in_err-word
returns-in_err-word g c =
    let is : c.from_residual.result ≡ Err (errors.Refused refusals.NoMemory) = search rules in
    subst (λ (r : Result PreparedCall CallError). IsReadAs c.args.words.now (g.I.Source.observed c.args.input.now) (g.I.Source.observed c.args.input.now) r) (sym is) ([], λ _ _ _ _ _ _ _. tt)

pub returns-in-Usage : goal.returns-in-Usage
returns-in-Usage g c =
    usage-refuses c.args.words.now c.in-Usage.word c.in-Usage.kind (g.I.Source.observed c.args.input.now) c.requires (sym c.in_ok-word.ensures ∙ c.in-Usage.is)

pub returns-in-Request : goal.returns-in-Request
returns-in-Request g c = c.read_request.ensures c.args.words.now c.requires (sym c.in_ok-word.ensures ∙ c.in-Request.is)
