use Rattle.std.proofs.Common.{◌≡◌, take}
use Rattle.nm_tables.specs.FileTable.{AreFiled, files_in}
use Rattle.nm_state.proofs.load.file_all.Given as goal

abbrev pub invariant-files : goal.invariant-files
invariant-files l = record { filed : AreFiled l.file_table; files : files_in l.file_table ≡ take l.file-index l.files }
