use Rattle.std.proofs.Common.{◌≤◌, ◌<◌, ◌-◌, length, get_or}
use Rattle.nm_cursor.proofs.rising.place_between.Given as goal

abbrev pub invariant-halves : goal.invariant-halves
invariant-halves g l = (l.start ≤ l.low) × (l.low ≤ l.high) × (l.high ≤ length l.docs)
    × (l.start < l.low → get_or l.docs (l.low - 1) 0 < l.doc)
    × (l.high < length l.docs → l.doc ≤ get_or l.docs l.high 0)
    × (l.initial.steps ≤ l.steps)

abbrev pub decreases-halves : goal.decreases-halves
decreases-halves g l = l.high - l.low
