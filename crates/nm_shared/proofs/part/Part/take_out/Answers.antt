use Rattle.std.proofs.Common.{sym, ap, ◌∙◌}
use Rattle.std.specs.BTreeMap.{is_at}
use Rattle.std.specs.Map.{remove_entry}
use Rattle.nm_shared.proofs.MapLemmas.{remove_missing_any, take_item, take_run, not_true, not_false}
use Rattle.nm_shared.proofs.part.Part.take_out.Goals as goal

pub returns-then-not-spot-clause-ok : goal.returns-then-not-spot-clause-ok
returns-then-not-spot-clause-ok g c =
    sym (ap (remove_entry (is_at (g.K.Ord.cmp c.args.key.now))) (sym c.self.view_is)
    ∙ remove_missing_any g.K.Ord.cmp c.args.key.now c.self.inside.runs.items c.spot_of-spot.result (rw c.as_slice.ensures.value at c.spot_of-spot.ensures) (not_true _ c.if-not-spot.true) ∙ c.self.view_is)

pub invariant_of-self : goal.invariant_of-self
invariant_of-self g c =
    rw c.saturating_sub-len.ensures
    (take_run c.args.key.now c.self.inside.runs.items c.spot_of-spot.result (rw c.as_slice.ensures.value at c.spot_of-spot.ensures) g.met.K.Ord.total c.self.inside.len c.self.invariant c.index.result.now c.index.ensures (not_false _ c.if-not-spot.false)
    c.remove.new.self.items (sym c.len.ensures ∙ c.if-len-eq1.true) c.remove.ensures.items).0

pub returns-then-len-eq1-clause-ok : goal.returns-then-len-eq1-clause-ok
returns-then-len-eq1-clause-ok g c =
    (take_run c.args.key.now c.self.inside.runs.items c.spot_of-spot.result (rw c.as_slice.ensures.value at c.spot_of-spot.ensures) g.met.K.Ord.total c.self.inside.len c.self.invariant c.index.result.now c.index.ensures (not_false _ c.if-not-spot.false)
    c.remove.new.self.items (sym c.len.ensures ∙ c.if-len-eq1.true) c.remove.ensures.items).1
    ∙ ap (remove_entry (is_at (g.K.Ord.cmp c.args.key.now))) c.self.view_is

pub invariant_of-self-2 : goal.invariant_of-self-2
invariant_of-self-2 g c =
    rw c.saturating_sub-len.ensures
    (take_item c.args.key.now c.self.inside.runs.items c.spot_of-spot.result (rw c.as_slice.ensures.value at c.spot_of-spot.ensures) g.met.K.Ord.total c.self.inside.len c.self.invariant c.index_mut.result.now c.index_mut.ensures.value (not_false _ c.if-not-spot.false)
    c.remove-2.new.self c.index.result.now c.index.ensures (λ one. c.if-len-eq1.false (c.len.ensures ∙ one)) c.in_ok-remove.ensures.ok).0

pub returns-clause-ok : goal.returns-clause-ok
returns-clause-ok g c =
    (take_item c.args.key.now c.self.inside.runs.items c.spot_of-spot.result (rw c.as_slice.ensures.value at c.spot_of-spot.ensures) g.met.K.Ord.total c.self.inside.len c.self.invariant c.index_mut.result.now c.index_mut.ensures.value (not_false _ c.if-not-spot.false)
    c.remove-2.new.self c.index.result.now c.index.ensures (λ one. c.if-len-eq1.false (c.len.ensures ∙ one)) c.in_ok-remove.ensures.ok).1
    ∙ ap (remove_entry (is_at (g.K.Ord.cmp c.args.key.now))) c.self.view_is
