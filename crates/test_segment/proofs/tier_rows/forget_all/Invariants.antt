use Rattle.std.proofs.Common.{◌≡◌}
use Rattle.nm_tiers.specs.Tiers.{docs_of}
use Rattle.test_segment.proofs.tier_rows.forget_all.Given as goal

abbrev pub invariant-gone : goal.invariant-gone
invariant-gone l = docs_of l.came.tiers ≡ l.came.docs
