use Rattle.nm_history.proofs.LineLemmas.{commits-more}
use Rattle.nm_history.proofs.lane_zero_laws.a_line_more_keeps_the_commits.Goals as goal

pub returns : goal.returns
returns c = commits-more
