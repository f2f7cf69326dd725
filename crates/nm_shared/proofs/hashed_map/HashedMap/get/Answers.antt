use Rattle.std.proofs.Common.{sym, ap, ◌∙◌}
use Rattle.std.specs.BTreeMap.{is_at}
use Rattle.std.specs.Map.{lookup}
use Rattle.nm_shared.proofs.HashedLemmas.{found_crowded, found_slot}
use Rattle.nm_shared.proofs.hashed_map.HashedMap.get.Goals as goal

pub returns-in_default : goal.returns-in_default
returns-in_default g c =
    c.get.ensures
    ∙ sym (found_crowded g.K.Ord.cmp g.K.Hashed.hash g.met.K.Hashed.same c.self.inside.places c.self.inside.slots c.self.inside.crowded c.self.inside.next c.self.invariant c.args.key.now c.in_default.ensures.0)
    ∙ ap (lookup (is_at (g.K.Ord.cmp c.args.key.now))) c.self.view_is

pub returns : goal.returns
returns g c =
    sym (found_slot g.K.Ord.cmp g.K.Hashed.hash g.met.K.Hashed.same c.self.inside.places c.self.inside.slots c.self.inside.crowded c.self.inside.next c.self.invariant c.args.key.now _ c.in-Ok.pair.now c.in-Ok.ensures.0 c.in-Ok.ensures.1 c.in-Ok.ensures.2)
    ∙ ap (lookup (is_at (g.K.Ord.cmp c.args.key.now))) c.self.view_is
