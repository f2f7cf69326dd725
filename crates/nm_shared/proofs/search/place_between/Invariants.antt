use Rattle.std.proofs.Common.{◌≡◌, ◌≢◌, ◌-◌, ◌<◌, ◌≤◌, length, get_or}
use Rattle.std.specs.declared.cmp.Ordering.TheVariants.{Greater}
use Rattle.nm_shared.proofs.search.place_between.Given as goal

abbrev pub invariant-halves : goal.invariant-halves
invariant-halves g l = (l.low ≤ l.high) × (l.high ≤ length l.items)
    × ((entry : _) → 0 < l.low → g.K.Ord.cmp l.key (get_or l.items (l.low - 1) entry).0 ≡ Greater)
    × ((entry : _) → l.high < length l.items → g.K.Ord.cmp l.key (get_or l.items l.high entry).0 ≢ Greater)

abbrev pub decreases-halves : goal.decreases-halves
decreases-halves g l = l.high - l.low
