use Rattle.nm_scan.proofs.LawLemmas.{in-one}
use Rattle.nm_scan.proofs.laws.batches_are_what_was_read.Goals as goal

pub returns : goal.returns
returns c = in-one
