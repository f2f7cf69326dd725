use Rattle.nm_model_answer.proofs.MatchLemmas.{among_matches, matches_distinct}
use Rattle.nm_model_answer.proofs.laws.the_matches_are_the_live_messages_that_pass.Goals as goal

pub returns-clause-found : goal.returns-clause-found
returns-clause-found c = among_matches

pub returns-clause-once : goal.returns-clause-once
returns-clause-once c = matches_distinct
