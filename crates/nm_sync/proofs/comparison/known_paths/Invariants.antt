use Rattle.std.proofs.Common.{◌≡◌, ◌++◌}
use Rattle.nm_sync.proofs.comparison.known_paths.Given as goal

abbrev pub invariant-paths : goal.invariant-paths
invariant-paths l = l.known ++ l.path-iterator ≡ l.initial.path-iterator
