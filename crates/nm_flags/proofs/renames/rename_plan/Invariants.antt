use Rattle.std.proofs.Common.{◌≡◌, take}
use Rattle.nm_flags.specs.Renames.{asked_flags, renames}
use Rattle.nm_flags.proofs.renames.rename_plan.Given as goal

abbrev pub invariant-paths : goal.invariant-paths
invariant-paths l = (l.plan ≡ renames l.fn.tags (take l.path-index l.paths)) × (l.flags ≡ asked_flags l.fn.tags)
