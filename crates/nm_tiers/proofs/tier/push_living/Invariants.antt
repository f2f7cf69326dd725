use Rattle.std.proofs.Common.{◌≡◌, ◌++◌, take}
use Rattle.std.specs.List.{filter}
use Rattle.nm_segment.specs.Docs.{numbers}
use Rattle.nm_tiers.proofs.tier.push_living.Given as goal

-- those of the documents so far that live
abbrev pub invariant-docs : goal.invariant-docs
invariant-docs g l = l.live ≡ l.initial.live ++ filter (g.C.Condition.holds l.living) (take l.at (numbers l.segment))
