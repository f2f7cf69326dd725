use Rattle.std.proofs.Common.{◌≡◌, ◌≤◌, ◌++◌, drop, filter, length, map, reverse}
use Rattle.nm_scan.specs.Walk.{folder_inside, is_walked}
use Rattle.nm_scan.proofs.walk.push_others.Given as goal

-- the names from here on are pending
abbrev pub invariant-names : goal.invariant-names
invariant-names l = record {
  within : l.at ≤ length l.names;
  pushed : reverse l.pending ≡ map (folder_inside l.levels l.dir) (filter is_walked (drop l.at l.names)) ++ reverse l.initial.pending;
}

abbrev pub decreases-names : goal.decreases-names
decreases-names l = l.at
