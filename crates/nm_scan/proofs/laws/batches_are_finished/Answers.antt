use Rattle.nm_scan.proofs.LawLemmas.{finished}
use Rattle.nm_scan.proofs.laws.batches_are_finished.Goals as goal

pub returns : goal.returns
returns c = finished
