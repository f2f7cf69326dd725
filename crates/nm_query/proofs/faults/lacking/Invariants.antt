use Rattle.std.proofs.Common.{◌≡◌, false, length}
use Rattle.nm_query.specs.Faults.{lacking_from}
use Rattle.nm_query.proofs.faults.lacking.Given as goal

abbrev pub invariant-tokens : goal.invariant-tokens
invariant-tokens l = lacking_from l.before l.rest ≡ lacking_from false l.tokens

abbrev pub decreases-tokens : goal.decreases-tokens
decreases-tokens l = length l.rest
