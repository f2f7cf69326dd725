use Rattle.std.proofs.Common.{ap, ◌∙◌, ◌-◌, length, arith}
use Rattle.std.specs.BTreeMap.{insert_entry}
use Rattle.nm_shared.proofs.PartLemmas.{in_reach, put_flat, put_map}
use Rattle.nm_shared.proofs.shared_map.SharedMap.put.Goals as goal

pub invariant_of-self-2 : goal.invariant_of-self-2
invariant_of-self-2 g c =
    put_map g.met.K.Ord.total c.args.key c.self.inside.parts.items c.self.inside.len c.part_of.result c.saturating_sub-at.result c.saturating_sub-at.ensures
    (in_reach c.self.inside.parts.items c.part_of.result c.saturating_sub-at.result c.saturating_sub-at.ensures (rw c.as_slice.ensures.value at c.part_of.ensures.within) (rw c.self.view_is c.requires)) c.self.invariant (rw c.as_slice.ensures.value at c.part_of.ensures) c.index_mut-part.result.now c.insert.new.self c.index_mut-part.ensures.value c.args.value c.in_ok-insert.ensures.ok c.len-before.result c.saturating_sub-more.result c.saturating_add-self-inside.result
    (c.len-before.ensures.len ∙ ap length c.get.ensures) (c.saturating_sub-more.ensures ∙ ap (λ n. n - c.len-before.result) (c.len.ensures.len ∙ ap length c.get-2.ensures)) c.saturating_add-self-inside.ensures (omega arith)

pub returns-clause-ok : goal.returns-clause-ok
returns-clause-ok g c =
    put_flat g.met.K.Ord.total c.args.key c.self.inside.parts.items c.self.inside.len c.part_of.result c.saturating_sub-at.result c.saturating_sub-at.ensures
    (in_reach c.self.inside.parts.items c.part_of.result c.saturating_sub-at.result c.saturating_sub-at.ensures (rw c.as_slice.ensures.value at c.part_of.ensures.within) (rw c.self.view_is c.requires)) c.self.invariant (rw c.as_slice.ensures.value at c.part_of.ensures) c.index_mut-part.result.now c.insert.new.self c.index_mut-part.ensures.value c.args.value c.in_ok-insert.ensures.ok
    ∙ ap (λ all. insert_entry g.K.Ord.cmp all c.args.key c.args.value) c.self.view_is
