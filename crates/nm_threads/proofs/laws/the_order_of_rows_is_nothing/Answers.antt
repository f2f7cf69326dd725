use Rattle.nm_threads.proofs.SameLemmas.{Same_among}
use Rattle.nm_threads.proofs.laws.the_order_of_rows_is_nothing.Goals as goal

pub returns : goal.returns
returns c = Same_among
