use Rattle.std.proofs.Common.{◌≡◌, take}
use Rattle.nm_tiers.proofs.tiers.TiersCopies.copy.Given as goal

abbrev pub invariant-tiers : goal.invariant-tiers
invariant-tiers l = l.list.items ≡ take l.tier-index l.self
