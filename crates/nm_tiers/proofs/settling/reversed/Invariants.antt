use Rattle.std.proofs.Common.{◌≡◌, ◌++◌, length, reverse}
use Rattle.nm_tiers.proofs.settling.reversed.Given as goal

-- the tiers so far, with those that are left, are all
abbrev pub invariant-tiers : goal.invariant-tiers
invariant-tiers l = l.list ++ reverse l.rest ≡ reverse l.fn.tiers

abbrev pub decreases-tiers : goal.decreases-tiers
decreases-tiers l = length l.rest
