use Rattle.nm_history.proofs.MachineLemmas.{run-more}
use Rattle.nm_history.proofs.lane_zero_laws.a_line_more_keeps_the_machine_run.Goals as goal

pub returns : goal.returns
returns c = λ opening moment phase. run-more moment opening phase
