use Rattle.std.proofs.Common.{ap, ◌∙◌, length, ◌-◌}
use Rattle.std.specs.List.{slice_get}
use Rattle.nm_shared.proofs.MapLemmas.{last_is}
use Rattle.nm_shared.proofs.shared_map.SharedMap.last.Goals as goal

pub returns : goal.returns
returns g c =
    c.last-2.ensures
    ∙ last_is c.self.inside.parts.items c.deref.result.now c.in-Some.part.now c.get.result.now c.deref.ensures.value c.self.invariant.filled c.in-Some.ensures.value c.get.ensures
    ∙ ap (λ all. slice_get all (length all - 1)) c.self.view_is
