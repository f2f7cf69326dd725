use Rattle.std.proofs.Common.{◌≤◌, ◌<◌, ◌-◌, length, get_or}
use Rattle.nm_cursor.proofs.rising.place_from.Given as goal

abbrev pub invariant-widths : goal.invariant-widths
invariant-widths g l = (l.start ≤ l.low) × (l.low ≤ length l.docs)
    × (l.start < l.low → get_or l.docs (l.low - 1) 0 < l.doc)
    × (l.initial.steps ≤ l.steps)

abbrev pub decreases-widths : goal.decreases-widths
decreases-widths g l = length l.docs - l.low
