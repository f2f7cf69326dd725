use Rattle.std.proofs.Common.{ap, ◌∙◌, []}
use Rattle.std.specs.BTreeMap.Range.{entries_from}
use Rattle.nm_shared.proofs.PartLemmas.{iter_from_is}
use Rattle.nm_shared.proofs.shared_map.SharedMap.iter_from.Goals as goal

pub returns-clause-rest : goal.returns-clause-rest
returns-clause-rest g c =
    c.of.ensures
    ∙ iter_from_is g.met.K.Ord.total c.args.key.now c.self.inside.parts.items c.self.inside.len c.part_of.result c.saturating_sub-at.result c.saturating_sub-at.ensures (rw c.deref.ensures.value at c.in-Some.ensures.lookup.3.0) c.self.invariant (rw c.as_slice.ensures.value at c.part_of.ensures)
    c.deref.result.now c.as_slice-2.result.now c.in-Some.part.now c.get-2.result.now c.iter_from.result c.deref.ensures.value c.as_slice-2.ensures.value (c.in-Some.ensures.lookup.3.1 []) c.get-2.ensures c.iter_from.ensures.rest
    ∙ ap (entries_from (g.K.Ord.cmp c.args.key.now)) c.self.view_is
