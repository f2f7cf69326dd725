use Rattle.nm_model_answer.specs.RankLaws.{by_rank_is}
use Rattle.nm_model_answer.proofs.search_laws.items_of_one_rank_stay_in_their_order.Goals as goal

pub returns : goal.returns
returns c = by_rank_is
