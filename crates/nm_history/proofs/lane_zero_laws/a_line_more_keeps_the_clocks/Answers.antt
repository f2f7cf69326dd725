use Rattle.nm_history.proofs.ClockLemmas.{clocks-more}
use Rattle.nm_history.proofs.lane_zero_laws.a_line_more_keeps_the_clocks.Goals as goal

pub returns : goal.returns
returns c = clocks-more
