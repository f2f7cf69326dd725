use Rattle.std.proofs.Common.{◌≡◌, ◌++◌}
use Rattle.nm_commit.specs.Files.{paths_of}
use Rattle.nm_changes.proofs.tag_plan.message_paths.Given as goal

abbrev pub invariant-files : goal.invariant-files
invariant-files l = l.paths ++ paths_of l.file-iterator ≡ paths_of l.initial.file-iterator
