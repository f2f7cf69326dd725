use Rattle.nm_parts.specs.Halves.{IsLabelledBy}
use Rattle.nm_parts.proofs.HalfLemmas.{in_turn_more}
use Rattle.nm_parts.proofs.halves.label_all.Goals as goal

pub changes-preserved : goal.changes-preserved
changes-preserved c =
    in_turn_more IsLabelledBy c.args.changes.now c.changes.change-index c.change-item.result c.args.before c.changes.labels c.label_one.new.labels c.changes-test.true c.change-item.is c.changes.invariant
    c.in_ok-label_one.ensures
