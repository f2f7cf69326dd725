use Rattle.std.proofs.Common.{◌≡◌, true, take}
use Rattle.std.specs.List.{list_all}
use Rattle.nm_eval.specs.Quick.{is_quick}
use Rattle.nm_eval.proofs.quick.+quickness.Given as goal

abbrev pub invariant-all_quick-queries : goal.invariant-all_quick-queries
invariant-all_quick-queries l = list_all is_quick (take l.query-index l.queries) ≡ true
