use Rattle.nm_query.proofs.PrintLemmas.{read-enclosed}
use Rattle.nm_query.proofs.laws.parentheses_change_nothing.Goals as goal

pub returns : goal.returns
returns c = read-enclosed
