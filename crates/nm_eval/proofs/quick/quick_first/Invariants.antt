use Rattle.std.proofs.Common.{◌≡◌, not, filter}
use Rattle.nm_eval.specs.Quick.{is_quick}
use Rattle.nm_eval.proofs.quick.quick_first.Given as goal

abbrev pub invariant-queries : goal.invariant-queries
invariant-queries l = (l.quick.items ≡ filter is_quick l.yielded) × (l.others.items ≡ filter (λ query. not (is_quick query)) l.yielded)
