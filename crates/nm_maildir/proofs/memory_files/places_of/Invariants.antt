use Rattle.std.proofs.Common.{◌≡◌, true, take}
use Rattle.nm_maildir.specs.MemoryFiles.{IsIndex}
use Rattle.nm_maildir.specs.Still.{are_distinct, paths_of}
use Rattle.nm_maildir.proofs.memory_files.places_of.Given as goal

abbrev pub invariant-files : goal.invariant-files
invariant-files l = record {
  places : IsIndex l.places (take l.at l.files);
  distinct : are_distinct (paths_of (take l.at l.files)) ≡ true;
}
