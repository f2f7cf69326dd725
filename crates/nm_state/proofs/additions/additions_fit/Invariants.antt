use Rattle.std.proofs.Common.{take}
use Rattle.std.specs.List.{fold}
use Rattle.nm_commit.specs.Files.{FitChanges, changed}
use Rattle.nm_state.specs.Additions.{AreWith}
use Rattle.nm_tables.specs.FileTable.{files_in}
use Rattle.nm_state.proofs.additions.additions_fit.Given as goal

abbrev pub invariant-changes : goal.invariant-changes
invariant-changes l = record {
  added : AreWith (files_in l.file_table) (fold changed (files_in l.file_table) (take l.change-index l.changes)) l.added;
  fit : FitChanges (files_in l.file_table) (take l.change-index l.changes);
}
