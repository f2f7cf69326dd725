use Rattle.nm_sync.proofs.ScanLemmas.{asks-some}
use Rattle.nm_sync.proofs.laws.a_new_asks_what_it_notes.Goals as goal

pub returns : goal.returns
returns c = asks-some
