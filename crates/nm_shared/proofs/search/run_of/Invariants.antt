use Rattle.std.proofs.Common.{◌≡◌, ◌≢◌, ◌-◌, ◌<◌, ◌≤◌, length, get_or}
use Rattle.std.specs.declared.cmp.Ordering.TheVariants.{Less}
use Rattle.nm_shared.specs.Runs.{run_at}
use Rattle.nm_shared.proofs.search.run_of.Given as goal

abbrev pub invariant-runs : goal.invariant-runs
invariant-runs g l = (l.low ≤ l.high) × (l.high ≤ length l.runs)
    × ((entry : _) → 0 < l.low → g.K.Ord.cmp l.key (get_or (run_at l.runs (l.low - 1)) 0 entry).0 ≢ Less)
    × ((entry : _) → l.high < length l.runs → g.K.Ord.cmp l.key (get_or (run_at l.runs l.high) 0 entry).0 ≡ Less)

abbrev pub decreases-runs : goal.decreases-runs
decreases-runs g l = l.high - l.low
