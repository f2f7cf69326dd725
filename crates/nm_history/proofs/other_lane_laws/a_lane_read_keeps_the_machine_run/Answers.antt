use Rattle.nm_history.proofs.EarlierLemmas.{run-lane_read}
use Rattle.nm_history.proofs.other_lane_laws.a_lane_read_keeps_the_machine_run.Goals as goal

pub returns : goal.returns
returns c = run-lane_read
