use Rattle.std.proofs.Common.{◌≤◌, subst}
use Rattle.std.specs.Map.{keys_of}
use Rattle.nm_base.specs.Order.{IsSorted}
use Rattle.nm_model_index.specs.Valid.{IsValid}
use Rattle.nm_state.proofs.ValidLemmas.{parts_valid}
use Rattle.nm_state.proofs.snapshot.a_snapshot_is_a_valid_index.Goals as goal

pub returns : goal.returns
returns c =
    let parts = c.snapshot.inside.parts in
    let least : 1 ≤ parts.labels.next = subst (λ n. 1 ≤ n) c.next.ensures.next c.next.ensures.least in
    let sorted : IsSorted (keys_of parts.tags) = c.order.ensures in
    subst IsValid c.snapshot.view_is (parts_valid parts c.snapshot.invariant c.next.ensures.labelling least sorted)
