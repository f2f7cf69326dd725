use Rattle.std.proofs.Common.{◌≡◌, take}
use Rattle.std.specs.Prelude.{fold}
use Rattle.nm_commit.specs.Files.{changed}
use Rattle.nm_tables.specs.FileTable.{AreFiled, files_in}
use Rattle.nm_parts.specs.Halves.{InTurn, IsFiledBy}
use Rattle.nm_parts.proofs.halves.file_all.Given as goal

abbrev pub invariant-changes : goal.invariant-changes
invariant-changes l =
    record {
      turn : InTurn IsFiledBy (take l.change-index l.changes) l.fn.before l.filed;
      filed : AreFiled l.filed.file_table;
      files : files_in l.filed.file_table ≡ fold changed (files_in l.fn.before.file_table) (take l.change-index l.changes);
    }
