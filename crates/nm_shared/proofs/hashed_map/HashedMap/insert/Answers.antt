use Rattle.std.proofs.Common.{ap, ◌∙◌, cond, Some}
use Rattle.std.specs.BTreeMap.{is_at}
use Rattle.std.specs.Map.{lookup}
use Rattle.std.specs.Ordering.{is_eq}
use Rattle.nm_shared.proofs.HashedLemmas.{crowded_are, replaced_hashed, replaced_are}
use Rattle.nm_shared.proofs.hashed_map.HashedMap.insert.Goals as goal

pub invariant_of-self-in-Ok : goal.invariant_of-self-in-Ok
invariant_of-self-in-Ok g c =
    replaced_hashed g.K.Ord.cmp g.K.Hashed.hash g.met.K.Hashed.same c.self.inside.places c.self.inside.slots c.insert.new.self c.self.inside.crowded c.self.inside.next c.self.invariant c.args.key c.args.value c.in-Ok.slot _
    c.in-Ok.ensures.0 c.in-Ok.ensures.1 c.in-Ok.ensures.2 c.len.ensures.sorted c.in_ok-insert-in-Ok.ensures.found

pub returns-in-Ok-clause-found : goal.returns-in-Ok-clause-found
returns-in-Ok-clause-found g c = λ other.
    replaced_are g.K.Ord.cmp g.K.Hashed.hash g.met.K.Hashed.same c.self.inside.places c.self.inside.slots c.insert.new.self c.self.inside.crowded c.self.inside.next c.self.invariant c.args.key c.args.value c.in-Ok.slot _
    c.in-Ok.ensures.0 c.in-Ok.ensures.1 c.in-Ok.ensures.2 c.len.ensures.sorted c.in_ok-insert-in-Ok.ensures.found other
    ∙ ap (λ all. cond (is_eq (g.K.Ord.cmp other c.args.key)) (Some c.args.value) (lookup (is_at (g.K.Ord.cmp other)) all)) c.self.view_is

pub returns-then-is_crowded-clause-found : goal.returns-then-is_crowded-clause-found
returns-then-is_crowded-clause-found g c = λ other.
    crowded_are g.K.Ord.cmp g.K.Hashed.hash g.met.K.Hashed.same c.self.inside.places c.self.inside.slots c.self.inside.crowded c.insert-then-is_crowded.new.self c.self.inside.next c.self.invariant c.args.key (Some c.args.value) c.in-Err.ensures.0 c.in_ok-insert.ensures.found other
    ∙ ap (λ all. cond (is_eq (g.K.Ord.cmp other c.args.key)) (Some c.args.value) (lookup (is_at (g.K.Ord.cmp other)) all)) c.self.view_is
