use Rattle.std.proofs.Common.{◌≡◌, true, false, filter}
use Rattle.nm_model_answer.specs.Search.{message_date, ordered}
use Rattle.nm_model_answer.specs.Orders.{is_ranked}
use Rattle.nm_model_answer.proofs.DateLemmas.{newest-falls, newest-same}
use Rattle.nm_model_answer.specs.RankLaws.{by_rank_is}
use Rattle.nm_model_answer.proofs.search_laws.messages_are_told_by_date.Goals as goal

pub returns-clause-newest : goal.returns-clause-newest
returns-clause-newest c = λ index ids. newest-falls (message_date index) ids

pub returns-clause-oldest : goal.returns-clause-oldest
returns-clause-oldest c = λ index ids. (by_rank_is (message_date index) ids).rising

pub returns-clause-same : goal.returns-clause-same
returns-clause-same c = λ index oldest ids date. elim oldest as (λ oldest. filter (is_ranked (message_date index) date) (ordered index oldest ids) ≡ filter (is_ranked (message_date index) date) ids) [
  | true ↦ (by_rank_is (message_date index) ids).same date
  | false ↦ newest-same (message_date index) ids date
]
