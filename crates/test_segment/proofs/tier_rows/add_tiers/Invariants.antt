use Rattle.std.proofs.Common.{◌≡◌}
use Rattle.nm_tiers.specs.Tiers.{docs_of}
use Rattle.test_segment.proofs.tier_rows.add_tiers.Given as goal

abbrev pub invariant-sizes : goal.invariant-sizes
invariant-sizes l = docs_of l.came.tiers ≡ l.came.docs
