use Rattle.std.proofs.Common.{length, ◌-◌, ◌≡◌, ◌≤◌}
use Rattle.nm_disk.proofs.file_io.read_all.Given as goal

abbrev pub invariant-pieces : goal.invariant-pieces
invariant-pieces l = (l.done ≤ length l.into) × (length l.into ≡ length l.fn.into)

abbrev pub decreases-pieces : goal.decreases-pieces
decreases-pieces l = length l.initial.into - l.done
