use Rattle.nm_model_index.proofs.IndexLemmas.{next_after}
use Rattle.nm_model_index.proofs.laws.numbers_never_fall.Goals as goal

pub returns : goal.returns
returns c = next_after
