use Rattle.nm_line.proofs.LaneReadLemmas.{said-lane_answer}
use Rattle.nm_line.proofs.laws.what_a_lane_reads_is_said.Goals as goal

pub returns : goal.returns
returns c = said-lane_answer
