use Rattle.std.proofs.Common.{rules, sym, ◌∙◌}
use Rattle.nm_model_answer.specs.Test.{passes}
use Rattle.nm_eval.specs.Exclusion.{leaves_out}
use Rattle.nm_eval.proofs.ExclusionLemmas.{not_out}
use Rattle.nm_eval.proofs.matcher.is_match.Goals as goal

pub returns : goal.returns
returns c =
    search (rules, not_out (passes c.args.query.now c.args.message.now c.args.moment) (leaves_out c.args.excluding c.args.message.now) (sym c.leaves_out.ensures ∙ c.if-leaves_out.false))
