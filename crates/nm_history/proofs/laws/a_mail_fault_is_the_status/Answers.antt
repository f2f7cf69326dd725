use Rattle.nm_history.proofs.LawLemmas.{mail-status}
use Rattle.nm_history.proofs.laws.a_mail_fault_is_the_status.Goals as goal

pub returns : goal.returns
returns c = mail-status
