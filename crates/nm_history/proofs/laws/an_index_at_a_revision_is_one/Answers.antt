use Rattle.nm_history.proofs.LawLemmas.{one-index}
use Rattle.nm_history.proofs.laws.an_index_at_a_revision_is_one.Goals as goal

pub returns : goal.returns
returns c = one-index
