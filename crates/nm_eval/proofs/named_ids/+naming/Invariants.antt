use Rattle.std.proofs.Common.{◌≡◌, map, take, None, Some}
use Rattle.nm_eval.specs.NamedIds.{all_some, first_some, named_ids}
use Rattle.nm_eval.proofs.named_ids.+naming.Given as goal

-- no query so far names ids
abbrev pub invariant-first_named-queries : goal.invariant-first_named-queries
invariant-first_named-queries l = first_some (map named_ids (take l.query-index l.queries)) ≡ None

-- each query so far names ids, and all of these are there
abbrev pub invariant-all_named-queries : goal.invariant-all_named-queries
invariant-all_named-queries l = all_some (map named_ids (take l.query-index l.queries)) ≡ Some l.all.items
