use Rattle.nm_scan.proofs.LawLemmas.{one-batch}
use Rattle.nm_scan.proofs.laws.few_small_files_are_one_batch.Goals as goal

pub returns : goal.returns
returns c = one-batch
