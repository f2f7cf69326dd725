use Rattle.nm_history.proofs.LawLemmas.{closed-after}
use Rattle.nm_history.proofs.laws.what_writes_after_a_disk_fault_is_closed.Goals as goal

pub returns : goal.returns
returns c = closed-after
