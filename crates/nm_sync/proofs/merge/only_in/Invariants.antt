use Rattle.std.proofs.Common.{◌≡◌, ◌++◌, drop}
use Rattle.nm_sync.proofs.MergeLemmas.{only_of}
use Rattle.nm_sync.proofs.merge.only_in.Given as goal

-- what was found, and what the rest of both lists gives
abbrev pub invariant-paths : goal.invariant-paths
invariant-paths l = l.only ++ only_of l.rest (drop l.path-index l.paths) ≡ only_of l.others l.paths
