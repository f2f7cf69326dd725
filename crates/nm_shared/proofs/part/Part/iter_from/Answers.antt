use Rattle.std.proofs.Common.{ap, ◌∙◌}
use Rattle.std.specs.BTreeMap.Range.{entries_from}
use Rattle.nm_shared.proofs.MapLemmas.{iter_from_is}
use Rattle.nm_shared.proofs.part.Part.iter_from.Goals as goal

pub returns-clause-rest : goal.returns-clause-rest
returns-clause-rest g c =
    c.of.ensures
    ∙ iter_from_is c.args.key.now c.self.inside.runs.items c.deref.result.now c.as_slice-3.result.now c.spot_of-spot.result c.in-Some.run'.now c.as_slice-2.result.now
    (rw c.as_slice.ensures.value at c.spot_of-spot.ensures) c.deref.ensures.value c.as_slice-3.ensures.value (c.in-Some.ensures.lookup.3.1 c.in-Some.run'.now) c.in-Some.ensures.lookup.3.0 c.as_slice-2.ensures
    ∙ ap (entries_from (g.K.Ord.cmp c.args.key.now)) c.self.view_is
