use Rattle.std.proofs.Common.{length}
use Rattle.nm_top.proofs.call_end.+first_fault.Given as goal

abbrev pub decreases-first_fault : goal.decreases-first_fault
decreases-first_fault l = length l.logs.now
