use Rattle.nm_journal.proofs.OtherLemmas.{sync_or_fault}
use Rattle.nm_journal.proofs.laws.a_sync_leaves_nothing_new.Goals as goal

pub returns : goal.returns
returns c = sync_or_fault
