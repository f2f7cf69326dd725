use Rattle.nm_history.proofs.MachineLemmas.{run-none}
use Rattle.nm_history.proofs.lane_zero_laws.no_step_is_a_run_of_the_machine.Goals as goal

pub returns : goal.returns
returns c = run-none
