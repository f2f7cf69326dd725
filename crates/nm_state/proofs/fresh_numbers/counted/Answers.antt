use Rattle.std.proofs.Common.{arith}
use Rattle.nm_state.proofs.RenumberLemmas.{one_more_counted}
use Rattle.nm_state.proofs.fresh_numbers.counted.Goals as goal

pub entries-preserved : goal.entries-preserved
entries-preserved c = record {
  all = one_more_counted c.args.entries.now c.entries.all c.push.new.self c.entries.entry-index c.entry-item.result c.in_ok-copy.field-0 c.entries.number c.entries-test.true c.entries.invariant.all c.entries.invariant.number c.entry-item.is
      c.in_ok-copy.ensures c.in_ok-push.ensures.ok;
  number = omega (arith, c.entries.invariant.number);
}
