use Rattle.std.proofs.Common.{ap, ◌∙◌, []}
use Rattle.std.specs.BTreeMap.{is_at}
use Rattle.std.specs.Map.{lookup}
use Rattle.nm_shared.proofs.PartLemmas.{get_is}
use Rattle.nm_shared.proofs.shared_map.SharedMap.get_by.Goals as goal

pub returns : goal.returns
returns g c =
    c.get_by.ensures
    ∙ get_is g.met.K.Ord.total c.args.key.now c.self.inside.parts.items c.self.inside.len c.part_of.result c.saturating_sub-at.result c.saturating_sub-at.ensures (rw c.deref.ensures.value at c.in-Some.ensures.lookup.3.0) c.self.invariant (rw c.as_slice.ensures.value at c.part_of.ensures)
    c.deref.result.now c.in-Some.part.now c.get-2.result.now c.deref.ensures.value (c.in-Some.ensures.lookup.3.1 []) c.get-2.ensures
    ∙ ap (lookup (is_at (g.K.Ord.cmp c.args.key.now))) c.self.view_is
