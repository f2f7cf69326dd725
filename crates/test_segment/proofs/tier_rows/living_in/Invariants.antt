use Rattle.std.proofs.Common.{◌≡◌, ◌≤◌, length, take}
use Rattle.nm_tiers.specs.Tiers.{living_docs}
use Rattle.test_segment.proofs.tier_rows.living_in.Given as goal

-- how many of those so far live
abbrev pub invariant-docs : goal.invariant-docs
invariant-docs g l = (l.count ≡ length (living_docs (g.C.Condition.holds l.living) (take l.at l.segment))) × (l.count ≤ l.at) × (l.at-end ≡ length l.segment)
