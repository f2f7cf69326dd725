use Rattle.std.proofs.Common.{sym, ap, ◌∙◌}
use Rattle.nm_model_answer.specs.Sup.{is_in_parentheses}
use Rattle.nm_dump.proofs.InsideLemmas.{cut_after_first}
use Rattle.nm_dump.proofs.sup.inside.Goals as goal

pub range-requires-clause-start_boundary : goal.range-requires-clause-start_boundary
range-requires-clause-start_boundary c =
    λ _. cut_after_first c.args.text.now c.utf8.text (ap is_in_parentheses (sym c.as_bytes.ensures.value) ∙ (sym c.is_in_parentheses.ensures ∙ c.if-not-is_in_parentheses.false))
