use Rattle.std.proofs.Common.{◌≡◌, take}
use Rattle.std.specs.List.{fold}
use Rattle.nm_commit.specs.Files.{FitChanges, changed}
use Rattle.nm_tables.specs.FileTable.{AreFiled, files_in}
use Rattle.nm_state.proofs.commit_fit.changes_fit.Given as goal

abbrev pub invariant-changes : goal.invariant-changes
invariant-changes l = record {
  filed : AreFiled l.file_table;
  after : files_in l.file_table ≡ fold changed (files_in l.initial.file_table) (take l.change-index l.changes);
  fit : FitChanges (files_in l.initial.file_table) (take l.change-index l.changes);
}
