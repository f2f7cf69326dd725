use Rattle.std.proofs.Common.{rules, ◌≡◌, ◌∷◌, [], Some, sym, ap, ◌∙◌}
use Rattle.std.specs.Result.{is_ok}
use Rattle.nm_base.specs.Bounds.{fits_length}
use Rattle.nm_base.specs.MessageId.{is_id_text}
use Rattle.nm_eval.specs.NamedIds.{named_id}
use Rattle.nm_eval.proofs.NamedIdLemmas.{id_is, no_id}
use Rattle.nm_eval.proofs.named_ids.id_of.Goals as goal

pub returns-in_ok-push-in-Ok : goal.returns-in_ok-push-in-Ok
returns-in_ok-push-in-Ok c =
    let pushed : c.push.new.self ≡ c.in-Ok.id ∷ [] = search rules in
    ap Some pushed ∙ id_is (fits_length 1000 c.in_ok-copy.field-0) (is_id_text c.in_ok-copy.field-0) c.in_ok-copy.field-0 c.in-Ok.id (sym c.new.ensures ∙ c.in-Ok.is) ∙ ap named_id c.in_ok-copy.ensures

pub returns-in-Err : goal.returns-in-Err
returns-in-Err c =
    no_id (fits_length 1000 c.in_ok-copy.field-0) (is_id_text c.in_ok-copy.field-0) c.in_ok-copy.field-0 (ap is_ok (sym c.new.ensures ∙ c.in-Err.is)) ∙ ap named_id c.in_ok-copy.ensures
