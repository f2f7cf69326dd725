use Rattle.nm_scan.proofs.LawLemmas.{unfinished}
use Rattle.nm_scan.proofs.laws.a_batch_that_stops_is_unfinished.Goals as goal

pub returns : goal.returns
returns c = unfinished
