use Rattle.std.proofs.Common.{◌≡◌, replicate, None}
use Rattle.nm_workers.proofs.results.no_results.Given as goal

abbrev pub invariant-places : goal.invariant-places
invariant-places g l = l.places ≡ replicate l.counter None
