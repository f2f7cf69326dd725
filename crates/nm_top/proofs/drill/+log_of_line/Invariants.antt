use Rattle.std.proofs.Common.{length}
use Rattle.nm_top.proofs.drill.+log_of_line.Given as goal

abbrev pub decreases-log_of_line : goal.decreases-log_of_line
decreases-log_of_line l = length l.logs.now
