use Rattle.std.proofs.Common.{ap, ◌∙◌}
use Rattle.std.specs.List.{slice_get}
use Rattle.nm_shared.proofs.PartLemmas.{first_is}
use Rattle.nm_shared.proofs.shared_map.SharedMap.first.Goals as goal

pub returns : goal.returns
returns g c =
    first_is c.self.inside.parts.items c.deref.result.now c.in-Some.part.now c.get.result.now c.first-2.result.now c.deref.ensures.value c.in-Some.ensures.value c.get.ensures c.first-2.ensures.one
    ∙ ap (λ all. slice_get all 0) c.self.view_is
