use Rattle.nm_threads.proofs.NameLemmas.{one_name}
use Rattle.nm_threads.proofs.laws.a_thread_has_one_name.Goals as goal

pub returns : goal.returns
returns c = one_name
