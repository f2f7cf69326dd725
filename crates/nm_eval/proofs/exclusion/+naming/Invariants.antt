use Rattle.std.proofs.Common.{◌≡◌, false, take}
use Rattle.std.specs.List.{list_any}
use Rattle.nm_model_answer.specs.Matches.{names_tag}
use Rattle.nm_eval.proofs.exclusion.+naming.Given as goal

abbrev pub invariant-any_names-queries : goal.invariant-any_names-queries
invariant-any_names-queries l = list_any (λ query. names_tag query l.tag) (take l.query-index l.queries) ≡ false
