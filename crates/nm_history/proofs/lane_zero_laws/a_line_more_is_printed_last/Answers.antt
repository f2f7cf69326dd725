use Rattle.nm_history.proofs.PrintedLemmas.{printed-more, replies-more}
use Rattle.nm_history.proofs.lane_zero_laws.a_line_more_is_printed_last.Goals as goal

pub returns-clause-script : goal.returns-clause-script
returns-clause-script c = printed-more

pub returns-clause-alone : goal.returns-clause-alone
returns-clause-alone c = replies-more
