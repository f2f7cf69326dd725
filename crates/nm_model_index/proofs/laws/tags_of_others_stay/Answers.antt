use Rattle.nm_model_index.proofs.IndexLemmas.{tags_stay}
use Rattle.nm_model_index.proofs.laws.tags_of_others_stay.Goals as goal

pub returns : goal.returns
returns c = tags_stay
