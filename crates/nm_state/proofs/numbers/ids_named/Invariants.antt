use Rattle.std.proofs.Common.{◌≡◌, min, take}
use Rattle.nm_base.specs.Limits.{max_count}
use Rattle.nm_model_index.specs.Fits.{ids_named}
use Rattle.nm_state.proofs.numbers.ids_named.Given as goal

abbrev pub invariant-changes : goal.invariant-changes
invariant-changes l = l.count ≡ min (ids_named (take l.change-index l.changes)) max_count
