use Rattle.nm_threads.proofs.WorkLemmas.{potential_most}
use Rattle.nm_threads.proofs.laws.the_potential_of_n_ids_is_at_most_n_log_n.Goals as goal

pub returns : goal.returns
returns c = potential_most
