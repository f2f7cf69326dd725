use Rattle.std.proofs.Common.{◌+◌, ◌-◌, ◌*◌}
use Rattle.nm_workers.proofs.map.+fn-run_workers-join_mut+arg3+run_workers.Given as goal

-- the seats that are left, and a step between two of them
abbrev pub decreases-join_mut+arg3 : goal.decreases-join_mut+arg3
decreases-join_mut+arg3 g l = 2 * (l.further.last - l.further.next) + 1

abbrev pub decreases-run_workers : goal.decreases-run_workers
decreases-run_workers g l = 2 * (l.seats.last - l.seats.next)
