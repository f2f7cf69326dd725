use Rattle.std.proofs.Common.{ap, ◌∙◌, length, ◌-◌}
use Rattle.std.specs.List.{slice_get}
use Rattle.nm_shared.proofs.MapLemmas.{last_is}
use Rattle.nm_shared.proofs.part.Part.last.Goals as goal

pub returns : goal.returns
returns g c =
    c.last-2.ensures.value
    ∙ last_is c.self.inside.runs.items c.deref.result.now c.in_ok-last.field-0.now c.as_slice.result.now c.deref.ensures.value c.self.invariant.filled c.in_ok-last.ensures.value c.as_slice.ensures
    ∙ ap (λ all. slice_get all (length all - 1)) c.self.view_is
