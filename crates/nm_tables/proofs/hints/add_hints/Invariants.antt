use Rattle.std.proofs.Common.{◌≡◌, take}
use Rattle.std.specs.List.{list_any}
use Rattle.nm_commit.specs.Files.{has_id}
use Rattle.nm_tables.specs.FileTable.{files_in}
use Rattle.nm_tables.proofs.hints.add_hints.Given as goal

abbrev pub invariant-ids : goal.invariant-ids
invariant-ids l = l.live ≡ list_any (has_id (files_in l.file_table)) (take l.id-index l.ids)
