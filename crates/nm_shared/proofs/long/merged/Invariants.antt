use Rattle.std.proofs.Common.{◌≡◌, ◌++◌}
use Rattle.nm_shared.specs.Places.{merge}
use Rattle.nm_shared.proofs.long.merged.Given as goal

abbrev pub invariant-pairs : goal.invariant-pairs
invariant-pairs l = l.merged.items ++ l.pair-iterator ≡ merge l.late l.early
