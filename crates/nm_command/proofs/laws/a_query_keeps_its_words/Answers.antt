use Rattle.nm_command.proofs.QueryLemmas.{query-split}
use Rattle.nm_command.proofs.laws.a_query_keeps_its_words.Goals as goal

pub returns : goal.returns
returns c = query-split
