use Rattle.std.proofs.Common.{◌≡◌, ◌++◌, length}
use Rattle.std.specs.Map.{values_of}
use Rattle.nm_state.proofs.export.rows_of.Given as goal

-- what is copied, and what is left, is all
abbrev pub invariant-rows : goal.invariant-rows
invariant-rows l = l.rows ++ values_of l.rest ≡ values_of l.kept

abbrev pub decreases-rows : goal.decreases-rows
decreases-rows l = length l.rest
