use Rattle.nm_history.proofs.LineLemmas.{stands-more}
use Rattle.nm_history.proofs.lane_zero_laws.a_line_more_keeps_where_it_stands.Goals as goal

pub returns : goal.returns
returns c = stands-more
