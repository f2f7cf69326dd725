use Rattle.std.proofs.Common.{◌≡◌, take}
use Rattle.std.specs.Map.{values_of}
use Rattle.nm_tables.specs.Kept.{AreKept}
use Rattle.nm_state.proofs.load.keep_all.Given as goal

abbrev pub invariant-rows : goal.invariant-rows
invariant-rows l = record { kept : AreKept l.kept; rows : values_of l.kept ≡ take l.row-index l.rows }
