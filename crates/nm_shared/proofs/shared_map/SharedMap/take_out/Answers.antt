use Rattle.std.proofs.Common.{ap, ◌∙◌, length, arith}
use Rattle.std.specs.BTreeMap.{is_at}
use Rattle.std.specs.Map.{remove_entry}
use Rattle.nm_shared.proofs.PartLemmas.{take_flat, take_map, gone_flat, gone_map}
use Rattle.nm_shared.proofs.shared_map.SharedMap.take_out.Goals as goal

pub invariant_of-self-then-after-eq0 : goal.invariant_of-self-then-after-eq0
invariant_of-self-then-after-eq0 g c =
    gone_map g.met.K.Ord.total c.args.key.now c.self.inside.parts.items c.self.inside.len c.part_of.result c.saturating_sub-at.result c.saturating_sub-at.ensures
    (omega arith) c.self.invariant (rw c.as_slice.ensures.value at c.part_of.ensures) c.index_mut-part.result.now c.remove.new.self c.index_mut-part.ensures.value c.in_ok-remove.ensures.ok c.remove-then-after-eq0.new.self.items c.remove-then-after-eq0.ensures.items c.len-after.result (c.len-after.ensures.len ∙ ap length c.get-2.ensures) c.if-after-eq0.true
    c.len-before.result c.saturating_sub.result c.saturating_sub-self-inside.result (c.len-before.ensures.len ∙ ap length c.get.ensures) c.saturating_sub.ensures c.saturating_sub-self-inside.ensures

pub invariant_of-self-else-after-eq0 : goal.invariant_of-self-else-after-eq0
invariant_of-self-else-after-eq0 g c =
    take_map g.met.K.Ord.total c.args.key.now c.self.inside.parts.items c.self.inside.len c.part_of.result c.saturating_sub-at.result c.saturating_sub-at.ensures
    (omega arith) c.self.invariant (rw c.as_slice.ensures.value at c.part_of.ensures) c.index_mut-part.result.now c.remove.new.self c.index_mut-part.ensures.value c.in_ok-remove.ensures.ok c.len-before.result c.len-after.result c.saturating_sub.result c.saturating_sub-self-inside.result
    (c.len-before.ensures.len ∙ ap length c.get.ensures) (c.len-after.ensures.len ∙ ap length c.get-2.ensures) c.saturating_sub.ensures c.saturating_sub-self-inside.ensures c.if-after-eq0.false

pub returns-then-after-eq0-clause-ok : goal.returns-then-after-eq0-clause-ok
returns-then-after-eq0-clause-ok g c =
    gone_flat g.met.K.Ord.total c.args.key.now c.self.inside.parts.items c.self.inside.len c.part_of.result c.saturating_sub-at.result c.saturating_sub-at.ensures
    (omega arith) c.self.invariant (rw c.as_slice.ensures.value at c.part_of.ensures) c.index_mut-part.result.now c.remove.new.self c.index_mut-part.ensures.value c.in_ok-remove.ensures.ok c.remove-then-after-eq0.new.self.items c.remove-then-after-eq0.ensures.items c.len-after.result (c.len-after.ensures.len ∙ ap length c.get-2.ensures) c.if-after-eq0.true
    ∙ ap (remove_entry (is_at (g.K.Ord.cmp c.args.key.now))) c.self.view_is

pub returns-else-after-eq0-clause-ok : goal.returns-else-after-eq0-clause-ok
returns-else-after-eq0-clause-ok g c =
    take_flat g.met.K.Ord.total c.args.key.now c.self.inside.parts.items c.self.inside.len c.part_of.result c.saturating_sub-at.result c.saturating_sub-at.ensures
    (omega arith) c.self.invariant (rw c.as_slice.ensures.value at c.part_of.ensures) c.index_mut-part.result.now c.remove.new.self c.index_mut-part.ensures.value c.in_ok-remove.ensures.ok
    ∙ ap (remove_entry (is_at (g.K.Ord.cmp c.args.key.now))) c.self.view_is
