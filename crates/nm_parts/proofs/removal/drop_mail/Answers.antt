use Rattle.std.proofs.Common.{◌∙◌, ap, sym}
use Rattle.nm_model_index.specs.Index.{pruned, without_first}
use Rattle.nm_parts.specs.Parts.{base_of}
use Rattle.nm_parts.specs.MailLaws.{dropped_is}
use Rattle.nm_parts.proofs.removal.drop_mail.Goals as goal

pub returns-clause-base : goal.returns-clause-base
returns-clause-base c =
    let index = base_of c.args.parts.now in
    c.in_ok-prune.ensures.base ∙ ap pruned c.in_ok-facts.ensures.base ∙ dropped_is index c.args.path.now c.in_ok-facts.facts ∙ ap (without_first index c.args.path.now) (sym c.in_ok-facts.ensures.facts)
