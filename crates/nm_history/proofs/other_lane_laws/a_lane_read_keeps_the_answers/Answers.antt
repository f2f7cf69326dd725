use Rattle.nm_history.proofs.LaneReadLemmas.{lane_reads-more}
use Rattle.nm_history.proofs.other_lane_laws.a_lane_read_keeps_the_answers.Goals as goal

pub returns : goal.returns
returns c = lane_reads-more
