use Rattle.nm_history.proofs.CompleteLemmas.{unread-right}
use Rattle.nm_history.proofs.laws.a_call_that_reads_nothing_is_not_refused_for_its_input.Goals as goal

pub returns : goal.returns
returns c = unread-right
