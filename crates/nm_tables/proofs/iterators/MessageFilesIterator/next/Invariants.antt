use Rattle.std.proofs.Common.{◌≡◌, length}
use Rattle.nm_tables.specs.FileTable.{files_at_places}
use Rattle.nm_tables.proofs.iterators.MessageFilesIterator.next.Given as goal

-- what is left is left still, but for places without a file
abbrev pub invariant-places : goal.invariant-places
invariant-places l = files_at_places l.self-inside.files.now l.self-inside.places.now ≡ files_at_places l.initial.self-inside.files.now l.initial.self-inside.places.now

abbrev pub decreases-places : goal.decreases-places
decreases-places l = length l.self-inside.places.now
