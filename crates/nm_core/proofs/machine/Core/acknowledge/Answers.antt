use Rattle.std.proofs.Common.{ℕ, Bool, ◌<◌, List, Option, None, length, sym, ap, subst, ◌∙◌}
use Rattle.nm_core.specs.Core.{AreIndexes, Kept, machine_of, with_commit}
use Rattle.nm_core.specs.declared.machine.Made.{Made}
use Rattle.nm_core.proofs.IndexLemmas.{acknowledged, indexes-kept, order-more}
use Rattle.nm_model_index.specs.declared.base.Base.{Base}
use Rattle.nm_model_machine.specs.Laws.{InOrder}
use Rattle.nm_model_machine.specs.Machine.{Machine}
use Rattle.nm_core.proofs.machine.Core.acknowledge.Goals as goal

-- the state with these parts
abbrev kept_of : Base → List Made → Option Made → ℕ → List ℕ → Bool → ℕ → Kept
kept_of opening made in_flight shown lanes up met = record { machine = machine_of opening made in_flight shown lanes up; met = met }

pub invariant_of-self-2 : goal.invariant_of-self-2
invariant_of-self-2 c =
    let core = c.self.inside in
    let one = c.in-Some.made in
    let order = subst (λ (in_flight : Option Made). InOrder core.met (machine_of core.opening core.commits in_flight core.shown core.lanes core.up)) c.in-Some.is c.self.invariant.0 in
    let indexes = subst (λ (in_flight : Option Made). AreIndexes core.opening core.commits in_flight) c.in-Some.is c.self.invariant.2 in
    subst (λ (made : List Made). InOrder core.met (machine_of core.opening made None core.shown core.lanes core.up) × (0 < length core.lanes) × AreIndexes core.opening made None)
    (sym c.in_ok-push_copy.ensures.ok)
    (order-more core.opening core.commits one core.shown core.lanes core.up core.met order, c.self.invariant.1, indexes-kept core.opening core.commits one core.shown core.lanes core.up indexes)

pub returns : goal.returns
returns c =
    let core = c.self.inside in
    let one = c.in-Some.made in
    let now = ap (λ (in_flight : Option Made). kept_of core.opening core.commits in_flight core.shown core.lanes core.up core.met) (sym c.in-Some.is) ∙ c.self.view_is in (
      one.commit,
      sym (ap (λ (kept : Kept). kept.machine.in_flight) now),
      ap (λ (made : List Made). kept_of core.opening made None core.shown core.lanes core.up core.met) c.in_ok-push_copy.ensures.ok
          ∙ (ap (λ (machine : Machine). record { machine = machine; met = core.met }) (acknowledged core.opening core.commits one core.shown core.lanes core.up)
          ∙ ap (λ (kept : Kept). record { machine = with_commit kept.machine one.commit; met = kept.met }) now),
    )
