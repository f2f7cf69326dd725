use Rattle.nm_mime.proofs.WrittenLemmas.{params-written}
use Rattle.nm_mime.proofs.laws.written_params_are_read.Goals as goal

pub returns : goal.returns
returns c = λ params e. params-written params e
