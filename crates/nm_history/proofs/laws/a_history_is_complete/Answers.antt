use Rattle.nm_history.proofs.CompleteLemmas.{complete}
use Rattle.nm_history.proofs.laws.a_history_is_complete.Goals as goal

pub returns : goal.returns
returns c = complete c.what_holds_an_index_is_not_bad.ensures c.what_keeps_the_limits_passes_none.ensures
