use Rattle.nm_model_index.proofs.IndexLemmas.{commit_most}
use Rattle.nm_model_index.proofs.laws.numbers_rise_with_the_ids_named.Goals as goal

pub returns : goal.returns
returns c = commit_most
