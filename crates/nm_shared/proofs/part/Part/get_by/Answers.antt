use Rattle.std.proofs.Common.{sym, ap, ◌∙◌}
use Rattle.std.specs.BTreeMap.{is_at}
use Rattle.std.specs.Map.{lookup}
use Rattle.nm_shared.proofs.MapLemmas.{lookup_missing, get_is, not_true, not_false}
use Rattle.nm_shared.proofs.part.Part.get_by.Goals as goal

pub returns-then-not-spot : goal.returns-then-not-spot
returns-then-not-spot g c =
    sym (ap (lookup (is_at (g.K.Ord.cmp c.args.key.now))) (sym c.self.view_is)
    ∙ lookup_missing g.K.Ord.cmp c.args.key.now c.self.inside.runs.items c.spot_of-spot.result (rw c.as_slice.ensures.value at c.spot_of-spot.ensures) (not_true _ c.if-not-spot.true))

pub returns : goal.returns
returns g c =
    get_is c.args.key.now c.self.inside.runs.items c.spot_of-spot.result (rw c.as_slice.ensures.value at c.spot_of-spot.ensures) (not_false _ c.if-not-spot.false)
    c.index.result.now c.index.ensures c.index-as_slice-spot.result (rw c.as_slice-2.ensures at c.index-as_slice-spot.is)
    ∙ ap (lookup (is_at (g.K.Ord.cmp c.args.key.now))) c.self.view_is
