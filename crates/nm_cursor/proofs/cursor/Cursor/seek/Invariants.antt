use Rattle.std.proofs.Common.{◌≡◌, ◌≤◌, length}
use Rattle.nm_cursor.specs.Sets.{IsRising, from}
use Rattle.nm_cursor.proofs.cursor.Cursor.seek.Given as goal

abbrev pub invariant-below : goal.invariant-below
invariant-below g l = (from l.doc (g.Self.Cursor.left l.self) ≡ from l.doc (g.Self.Cursor.left l.initial.self))
    × (IsRising (g.Self.Cursor.left l.self) → IsRising (g.Self.Cursor.left l.initial.self))
    × (l.initial.steps ≤ l.steps)

abbrev pub decreases-below : goal.decreases-below
decreases-below g l = length (g.Self.Cursor.left l.self)
