use Rattle.std.proofs.Common.{◌≡◌}
use Rattle.nm_query.specs.Levels.{negated}
use Rattle.nm_query.proofs.level.negated.Given as goal

abbrev pub invariant-negations : goal.invariant-negations
invariant-negations l = negated l.rest l.query ≡ negated l.fn.negations l.fn.query

abbrev pub decreases-negations : goal.decreases-negations
decreases-negations l = l.rest
