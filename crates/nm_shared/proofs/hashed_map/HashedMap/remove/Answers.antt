use Rattle.std.proofs.Common.{ap, ◌∙◌, cond, None}
use Rattle.std.specs.BTreeMap.{is_at}
use Rattle.std.specs.Map.{lookup}
use Rattle.std.specs.Ordering.{is_eq}
use Rattle.nm_shared.proofs.HashedLemmas.{crowded_are, gone_hashed, gone_are}
use Rattle.nm_shared.proofs.hashed_map.HashedMap.remove.Goals as goal

pub returns-in_default-clause-found : goal.returns-in_default-clause-found
returns-in_default-clause-found g c = λ other.
    crowded_are g.K.Ord.cmp g.K.Hashed.hash g.met.K.Hashed.same c.self.inside.places c.self.inside.slots c.self.inside.crowded c.remove.new.self c.self.inside.next c.self.invariant c.args.key.now None c.in_default.ensures.0 c.in_ok-remove.ensures.found other
    ∙ ap (λ all. cond (is_eq (g.K.Ord.cmp other c.args.key.now)) None (lookup (is_at (g.K.Ord.cmp other)) all)) c.self.view_is

pub invariant_of-self-2 : goal.invariant_of-self-2
invariant_of-self-2 g c =
    gone_hashed g.K.Ord.cmp g.K.Hashed.hash g.met.K.Hashed.same c.self.inside.places c.self.inside.slots c.remove-2.new.self c.self.inside.crowded c.self.inside.next c.self.invariant c.args.key.now c.in-Ok.slot _ c.in-Ok.ensures.0 c.in-Ok.ensures.1 c.in-Ok.ensures.2
    c.len.ensures.sorted c.in_ok-remove-2.ensures.found

pub returns-clause-found : goal.returns-clause-found
returns-clause-found g c = λ other.
    gone_are g.K.Ord.cmp g.K.Hashed.hash g.met.K.Hashed.same c.self.inside.places c.self.inside.slots c.remove-2.new.self c.self.inside.crowded c.self.inside.next c.self.invariant c.args.key.now c.in-Ok.slot _ c.in-Ok.ensures.0 c.in-Ok.ensures.1 c.in-Ok.ensures.2
    c.len.ensures.sorted c.in_ok-remove-2.ensures.found other
    ∙ ap (λ all. cond (is_eq (g.K.Ord.cmp other c.args.key.now)) None (lookup (is_at (g.K.Ord.cmp other)) all)) c.self.view_is
