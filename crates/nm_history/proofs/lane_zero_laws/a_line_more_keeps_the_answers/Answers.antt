use Rattle.nm_history.proofs.LineLemmas.{line-answers-more}
use Rattle.nm_history.proofs.lane_zero_laws.a_line_more_keeps_the_answers.Goals as goal

pub returns : goal.returns
returns c = line-answers-more
