use Rattle.nm_model_answer.proofs.OnceLemmas.{once-first}
use Rattle.nm_model_answer.proofs.search_laws.threads_stand_where_their_first_messages_do.Goals as goal

pub returns-clause-first : goal.returns-clause-first
returns-clause-first c = once-first
