use Rattle.nm_state.proofs.NumberLemmas.{one_more_named}
use Rattle.nm_state.proofs.numbers.ids_named.Goals as goal

pub changes-preserved : goal.changes-preserved
changes-preserved c =
    one_more_named c.args.changes.now c.changes.change-index c.change-item.result c.changes.count c.named_ids.result c.saturating_add-count.result c.changes-test.true c.change-item.is c.changes.invariant c.named_ids.ensures c.saturating_add-count.ensures
