use Rattle.std.proofs.Common.{◌≡◌, map, take}
use Rattle.nm_model_answer.specs.Test.{passes}
use Rattle.nm_model_answer.specs.View.{View}
use Rattle.nm_eval.proofs.prepared_query.+preparing.Given as goal

-- each query so far is passed as the one that is in its place
abbrev pub invariant-each_prepared-queries : goal.invariant-each_prepared-queries
invariant-each_prepared-queries l = (message : View) → map (λ query. passes query message l.moment) l.asked ≡ map (λ query. passes query message l.moment) (take l.query-index l.queries)
