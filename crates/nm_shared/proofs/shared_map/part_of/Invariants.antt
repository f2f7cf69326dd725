use Rattle.std.proofs.Common.{◌≡◌, ◌≢◌, ◌-◌, ◌<◌, ◌≤◌, length, get_or}
use Rattle.std.specs.declared.cmp.Ordering.TheVariants.{Less}
use Rattle.nm_shared.specs.Runs.{run_at}
use Rattle.nm_shared.proofs.shared_map.part_of.Given as goal

abbrev pub invariant-parts : goal.invariant-parts
invariant-parts g l = (l.low ≤ l.high) × (l.high ≤ length l.parts)
    × ((entry : _) → 0 < l.low → g.K.Ord.cmp l.key (get_or (run_at l.parts (l.low - 1)) 0 entry).0 ≢ Less)
    × ((entry : _) → l.high < length l.parts → g.K.Ord.cmp l.key (get_or (run_at l.parts l.high) 0 entry).0 ≡ Less)

abbrev pub decreases-parts : goal.decreases-parts
decreases-parts g l = l.high - l.low
