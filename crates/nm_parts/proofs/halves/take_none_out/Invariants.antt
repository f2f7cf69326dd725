use Rattle.std.proofs.Common.{take}
use Rattle.std.specs.List.{AllByRecursion}
use Rattle.nm_parts.specs.Halves.{TakesNoneOut}
use Rattle.nm_parts.proofs.halves.take_none_out.Given as goal

abbrev pub invariant-changes : goal.invariant-changes
invariant-changes l = AllByRecursion TakesNoneOut (take l.change-index l.changes)
