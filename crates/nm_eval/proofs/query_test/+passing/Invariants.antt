use Rattle.std.proofs.Common.{◌≡◌, true, false, map, take}
use Rattle.std.specs.List.{list_all, list_any}
use Rattle.nm_model_answer.specs.Test.{is_odd, passes}
use Rattle.nm_eval.proofs.query_test.+passing.Given as goal

abbrev pub invariant-all_pass-queries : goal.invariant-all_pass-queries
invariant-all_pass-queries l = list_all (λ query. passes query l.message l.moment) (take l.query-index l.queries) ≡ true

abbrev pub invariant-any_passes-queries : goal.invariant-any_passes-queries
invariant-any_passes-queries l = list_any (λ query. passes query l.message l.moment) (take l.query-index l.queries) ≡ false

abbrev pub invariant-odd_pass-queries : goal.invariant-odd_pass-queries
invariant-odd_pass-queries l = l.is_odd ≡ is_odd (map (λ query. passes query l.message l.moment) (take l.query-index l.queries))
