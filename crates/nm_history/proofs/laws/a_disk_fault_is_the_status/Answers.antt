use Rattle.nm_history.proofs.LawLemmas.{disk-status}
use Rattle.nm_history.proofs.laws.a_disk_fault_is_the_status.Goals as goal

pub returns : goal.returns
returns c = disk-status
