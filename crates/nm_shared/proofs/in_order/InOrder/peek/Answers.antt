use Rattle.std.proofs.Common.{sym, ap, ◌∙◌, ◌++◌}
use Rattle.nm_shared.specs.Runs.{flat}
use Rattle.nm_shared.proofs.PartLemmas.{none_first}
use Rattle.nm_shared.proofs.in_order.InOrder.peek.Goals as goal

pub parts-preserved : goal.parts-preserved
parts-preserved g c =
    ap (λ all. all ++ flat c.in_ok-part.rest.now) (c.iter-self-inside.ensures ∙ c.get.ensures)
    ∙ sym (ap flat c.in_ok-part.ensures.cases.0)
    ∙ sym (ap (λ all. all ++ flat c.parts.self-inside.rest.now) (none_first c.parts.self-inside.front c.in_default.ensures.first))
    ∙ c.parts.invariant
