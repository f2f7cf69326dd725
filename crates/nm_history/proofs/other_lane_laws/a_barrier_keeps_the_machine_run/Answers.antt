use Rattle.nm_history.proofs.LaneReadLemmas.{run-barrier}
use Rattle.nm_history.proofs.other_lane_laws.a_barrier_keeps_the_machine_run.Goals as goal

pub returns : goal.returns
returns c = run-barrier
