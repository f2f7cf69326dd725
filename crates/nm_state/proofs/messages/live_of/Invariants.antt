use Rattle.std.proofs.Common.{◌≡◌, filter}
use Rattle.nm_commit.specs.Files.{has_id}
use Rattle.nm_tables.specs.FileTable.{files_in}
use Rattle.nm_state.proofs.messages.live_of.Given as goal

abbrev pub invariant-ids : goal.invariant-ids
invariant-ids l = l.live ≡ filter (has_id (files_in l.file_table)) l.yielded
