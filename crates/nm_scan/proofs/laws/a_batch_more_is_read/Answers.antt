use Rattle.nm_scan.proofs.LawLemmas.{more-batches}
use Rattle.nm_scan.proofs.laws.a_batch_more_is_read.Goals as goal

pub returns : goal.returns
returns c = more-batches
