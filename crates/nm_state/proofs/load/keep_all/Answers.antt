use Rattle.std.specs.Map.{values_of}
use Rattle.nm_state.proofs.LoadLemmas.{one_more_row}
use Rattle.nm_state.proofs.load.keep_all.Goals as goal

pub rows-preserved : goal.rows-preserved
rows-preserved c = record {
  kept = c.in_ok-keep_row.ensures.kept;
  rows = one_more_row c.args.rows.now (values_of c.rows.kept) (values_of c.keep_row.new.kept) c.rows.row-index c.row-item.result c.in_ok-copy.field-0 c.requires c.rows-test.true c.rows.invariant.rows c.row-item.is c.in_ok-copy.ensures
      c.in_ok-keep_row.ensures.rows;
}
