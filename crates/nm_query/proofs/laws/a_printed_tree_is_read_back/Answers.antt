use Rattle.nm_query.proofs.PrintLemmas.{read-printed}
use Rattle.nm_query.proofs.laws.a_printed_tree_is_read_back.Goals as goal

pub returns : goal.returns
returns c = read-printed
