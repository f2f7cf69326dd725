use Rattle.std.proofs.Common.{sym, ap, ◌∙◌}
use Rattle.std.specs.BTreeMap.{is_at}
use Rattle.std.specs.Map.{lookup}
use Rattle.nm_shared.proofs.HashedLemmas.{found_crowded, found_by_hint}
use Rattle.nm_shared.proofs.hashed_map.HashedMap.get_by_hint.Goals as goal

pub returns-in-Some : goal.returns-in-Some
returns-in-Some g c =
    ap (lookup (is_at (g.K.Ord.cmp c.args.key.now))) (sym c.self.view_is)
    ∙ found_by_hint g.K.Ord.cmp g.K.Hashed.hash g.met.K.Hashed.same c.self.inside.places c.self.inside.slots c.self.inside.crowded c.self.inside.next c.self.invariant c.args.key.now _ c.in-Some.pair.now c.in-Some.ensures.0 c.in-Some.ensures.1

pub returns-in-Some-get : goal.returns-in-Some-get
returns-in-Some-get g c =
    ap (lookup (is_at (g.K.Ord.cmp c.args.key.now))) (sym c.self.view_is)
    ∙ found_crowded g.K.Ord.cmp g.K.Hashed.hash g.met.K.Hashed.same c.self.inside.places c.self.inside.slots c.self.inside.crowded c.self.inside.next c.self.invariant c.args.key.now c.in_default.ensures
    ∙ sym c.in-Some-get.ensures

pub returns-in-None : goal.returns-in-None
returns-in-None g c =
    ap (lookup (is_at (g.K.Ord.cmp c.args.key.now))) (sym c.self.view_is)
    ∙ found_crowded g.K.Ord.cmp g.K.Hashed.hash g.met.K.Hashed.same c.self.inside.places c.self.inside.slots c.self.inside.crowded c.self.inside.next c.self.invariant c.args.key.now c.in_default.ensures
    ∙ sym c.in-None.ensures
