use Rattle.nm_eval.proofs.NamedIdLemmas.{named_has}
use Rattle.nm_eval.proofs.laws.what_passes_is_named.Goals as goal

pub returns : goal.returns
returns c = named_has c.a_tree_passes_as_its_queries_do.ensures.all c.a_tree_passes_as_its_queries_do.ensures.one
