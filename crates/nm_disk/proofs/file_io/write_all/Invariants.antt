use Rattle.std.proofs.Common.{length, ◌-◌, ◌≤◌}
use Rattle.nm_disk.proofs.file_io.write_all.Given as goal

abbrev pub invariant-pieces : goal.invariant-pieces
invariant-pieces l = l.done ≤ length l.bytes

abbrev pub decreases-pieces : goal.decreases-pieces
decreases-pieces l = length l.bytes - l.done
