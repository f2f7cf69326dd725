use Rattle.nm_header.proofs.LawLemmas.{ids-written}
use Rattle.nm_header.proofs.laws.written_ids_are_read.Goals as goal

pub returns : goal.returns
returns c = λ ids e. ids-written ids e
