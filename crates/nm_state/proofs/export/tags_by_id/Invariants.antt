use Rattle.std.proofs.Common.{◌≡◌, ℕ, List, false, length}
use Rattle.nm_commit.specs.Files.{has_id}
use Rattle.nm_tables.specs.FileTable.{at_text}
use Rattle.nm_state.proofs.export.tags_by_id.Given as goal

-- of what no file that is left is of, the map has what the tags have
abbrev pub invariant-files : goal.invariant-files
invariant-files l = (id : List ℕ) → has_id l.rest id ≡ false → at_text id l.all ≡ at_text id l.tags

abbrev pub decreases-files : goal.decreases-files
decreases-files l = length l.rest
