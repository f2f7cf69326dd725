use Rattle.std.proofs.Common.{◌+◌, ◌*◌, length}
use Rattle.nm_blocks.proofs.number.+groups.Given as goal

abbrev pub decreases-take_long : goal.decreases-take_long
decreases-take_long l = 2 * length l.rest.now + 1

abbrev pub decreases-take_number : goal.decreases-take_number
decreases-take_number l = 2 * length l.bytes.now
