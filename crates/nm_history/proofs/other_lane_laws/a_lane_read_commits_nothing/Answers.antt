use Rattle.nm_history.proofs.LaneReadLemmas.{lane_read-commits-nothing}
use Rattle.nm_history.proofs.other_lane_laws.a_lane_read_commits_nothing.Goals as goal

pub returns : goal.returns
returns c = lane_read-commits-nothing
