use Rattle.std.proofs.Common.{◌≡◌, sym, ap, subst, ◌∙◌, cond, Some}
use Rattle.std.specs.BTreeMap.{is_at}
use Rattle.std.specs.Map.{lookup}
use Rattle.std.specs.Ordering.{is_eq}
use Rattle.nm_shared.proofs.HashedLemmas.{crowded_are, found_crowded, found_slot}
use Rattle.nm_shared.proofs.hashed_map.HashedMap.insert_new.Goals as goal

pub returns-in-Ok-clause-there : goal.returns-in-Ok-clause-there
returns-in-Ok-clause-there g c =
    ap (λ value. Some value) c.in_ok-copy-in-Ok.ensures
    ∙ sym (found_slot g.K.Ord.cmp g.K.Hashed.hash g.met.K.Hashed.same c.self.inside.places c.self.inside.slots c.self.inside.crowded c.self.inside.next c.self.invariant c.args.key.now _ c.in-Ok.pair.now c.in-Ok.ensures.0 c.in-Ok.ensures.1 c.in-Ok.ensures.2)
    ∙ ap (lookup (is_at (g.K.Ord.cmp c.args.key.now))) c.self.view_is

pub returns-in-Some-clause-there : goal.returns-in-Some-clause-there
returns-in-Some-clause-there g c =
    ap (λ value. Some value) c.in_ok-copy.ensures
    ∙ c.in-Some.ensures
    ∙ sym (found_crowded g.K.Ord.cmp g.K.Hashed.hash g.met.K.Hashed.same c.self.inside.places c.self.inside.slots c.self.inside.crowded c.self.inside.next c.self.invariant c.args.key.now c.in-Err.ensures.0)
    ∙ ap (lookup (is_at (g.K.Ord.cmp c.args.key.now))) c.self.view_is

pub returns-then-not-is_free-clause-there : goal.returns-then-not-is_free-clause-there
returns-then-not-is_free-clause-there g c =
    c.in_default.ensures
    ∙ sym (found_crowded g.K.Ord.cmp g.K.Hashed.hash g.met.K.Hashed.same c.self.inside.places c.self.inside.slots c.self.inside.crowded c.self.inside.next c.self.invariant c.args.key.now c.in-Err.ensures.0)
    ∙ ap (lookup (is_at (g.K.Ord.cmp c.args.key.now))) c.self.view_is

pub returns-then-not-is_free-clause-new : goal.returns-then-not-is_free-clause-new
returns-then-not-is_free-clause-new g c = λ _ other.
    crowded_are g.K.Ord.cmp g.K.Hashed.hash g.met.K.Hashed.same c.self.inside.places c.self.inside.slots c.self.inside.crowded c.insert.new.self c.self.inside.next c.self.invariant c.args.key.now (Some c.args.value) c.in-Err.ensures.0
    (subst (λ key. (other : _) → lookup (is_at (g.K.Ord.cmp other)) c.insert.new.self ≡ cond (is_eq (g.K.Ord.cmp other key)) (Some c.args.value) (lookup (is_at (g.K.Ord.cmp other)) c.self.inside.crowded)) c.in_ok-key.ensures c.in_ok-insert.ensures.found) other
    ∙ ap (λ all. cond (is_eq (g.K.Ord.cmp other c.args.key.now)) (Some c.args.value) (lookup (is_at (g.K.Ord.cmp other)) all)) c.self.view_is

pub returns-clause-there : goal.returns-clause-there
returns-clause-there g c =
    c.in_default.ensures
    ∙ sym (found_crowded g.K.Ord.cmp g.K.Hashed.hash g.met.K.Hashed.same c.self.inside.places c.self.inside.slots c.self.inside.crowded c.self.inside.next c.self.invariant c.args.key.now c.in-Err.ensures.0)
    ∙ ap (lookup (is_at (g.K.Ord.cmp c.args.key.now))) c.self.view_is
