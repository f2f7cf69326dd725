use Rattle.nm_scan.proofs.LawLemmas.{no-batches}
use Rattle.nm_scan.proofs.laws.no_batch_is_read_at_first.Goals as goal

pub returns : goal.returns
returns c = no-batches
