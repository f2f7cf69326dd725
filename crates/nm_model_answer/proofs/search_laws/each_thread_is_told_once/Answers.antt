use Rattle.nm_model_answer.proofs.PartLemmas.{once_distinct, same_members}
use Rattle.nm_model_answer.proofs.search_laws.each_thread_is_told_once.Goals as goal

pub returns-clause-once : goal.returns-clause-once
returns-clause-once c = once_distinct

pub returns-clause-same : goal.returns-clause-same
returns-clause-same c = same_members
