use Rattle.std.proofs.Common.{◌≡◌, length}
use Rattle.nm_sync.specs.Merge.{from_on}
use Rattle.nm_sync.proofs.merge.from_on.Given as goal

abbrev pub decreases-paths : goal.decreases-paths
decreases-paths l = length l.rest

-- what is from the path on is still to come
abbrev pub invariant-paths : goal.invariant-paths
invariant-paths l = from_on l.path l.rest ≡ from_on l.path l.paths
