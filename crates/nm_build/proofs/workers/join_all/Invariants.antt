use Rattle.std.proofs.Common.{◌≡◌, length}
use Rattle.nm_build.specs.Parts.{joined}
use Rattle.nm_build.proofs.workers.join_all.Given as goal

abbrev pub invariant-rounds : goal.invariant-rounds
invariant-rounds g l = joined l.rest ≡ joined l.fn.segments

abbrev pub decreases-rounds : goal.decreases-rounds
decreases-rounds g l = length l.rest
