use Rattle.nm_history.proofs.UnaskedLemmas.{line-history}
use Rattle.nm_history.proofs.laws.a_refused_line_is_a_history.Goals as goal

pub returns : goal.returns
returns c = line-history
