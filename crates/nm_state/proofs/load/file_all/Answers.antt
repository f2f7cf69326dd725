use Rattle.nm_tables.specs.FileTable.{files_in}
use Rattle.nm_state.proofs.LoadLemmas.{next_is_free}
use Rattle.nm_state.proofs.load.file_all.Goals as goal

pub add_file-requires-clause-new : goal.add_file-requires-clause-new
add_file-requires-clause-new c = next_is_free c.args.files.now (files_in c.files.file_table) c.files.file-index c.file-item.result c.requires.paths c.files-test.true c.files.invariant.files c.file-item.is
