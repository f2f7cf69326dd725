use Rattle.nm_history.proofs.LineLemmas.{given-more}
use Rattle.nm_history.proofs.lane_zero_laws.a_line_more_keeps_the_given.Goals as goal

pub returns : goal.returns
returns c = given-more
