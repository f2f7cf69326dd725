use Rattle.nm_history.proofs.PrintedLemmas.{fault-more, memory-more}
use Rattle.nm_history.proofs.lane_zero_laws.a_line_more_keeps_the_first_fault.Goals as goal

pub returns-clause-fault : goal.returns-clause-fault
returns-clause-fault c = fault-more

pub returns-clause-memory : goal.returns-clause-memory
returns-clause-memory c = memory-more
