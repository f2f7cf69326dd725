use Rattle.std.proofs.Common.{◌≡◌, ◌++◌, length}
use Rattle.nm_tables.specs.FileTable.{files_in}
use Rattle.nm_state.proofs.export.files_of.Given as goal

-- what is copied, and what is left, is all
abbrev pub invariant-files : goal.invariant-files
invariant-files l = l.files ++ l.rest ≡ files_in l.file_table

abbrev pub decreases-files : goal.decreases-files
decreases-files l = length l.rest
