use Rattle.nm_model_answer.proofs.MatchLemmas.{excluded_by}
use Rattle.nm_model_answer.proofs.laws.a_tag_excludes_unless_it_is_named.Goals as goal

pub returns : goal.returns
returns c = excluded_by
