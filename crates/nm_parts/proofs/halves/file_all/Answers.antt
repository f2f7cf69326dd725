use Rattle.nm_tables.specs.FileTable.{files_in}
use Rattle.nm_parts.specs.Halves.{IsFiledBy}
use Rattle.nm_parts.specs.ChangeLaws.{fit_at}
use Rattle.nm_parts.proofs.HalfLemmas.{files_filed, folded_more, in_turn_more, still_filed}
use Rattle.nm_parts.proofs.halves.file_all.Goals as goal

pub file_one-requires-clause-fits : goal.file_one-requires-clause-fits
file_one-requires-clause-fits c =
    fit_at (files_in c.args.before.file_table) (files_in c.changes.filed.file_table) c.args.changes.now c.changes.change-index c.change-item.result c.changes.invariant.files c.changes-test.true c.change-item.is c.requires.fits

pub changes-preserved : goal.changes-preserved
changes-preserved c =
    record {
      turn = in_turn_more IsFiledBy c.args.changes.now c.changes.change-index c.change-item.result c.args.before c.changes.filed c.file_one.new.filed c.changes-test.true c.change-item.is c.changes.invariant.turn
          c.in_ok-file_one.ensures;
      filed = still_filed c.change-item.result c.changes.filed c.file_one.new.filed c.changes.invariant.filed c.in_ok-file_one.ensures;
      files = folded_more (files_in c.args.before.file_table) (files_in c.changes.filed.file_table) (files_in c.file_one.new.filed.file_table) c.args.changes.now c.changes.change-index c.change-item.result c.changes-test.true
          c.change-item.is c.changes.invariant.files (files_filed c.change-item.result c.changes.filed c.file_one.new.filed c.in_ok-file_one.ensures);
    }
