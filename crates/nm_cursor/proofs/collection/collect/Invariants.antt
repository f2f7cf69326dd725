use Rattle.std.proofs.Common.{◌≡◌, ◌≤◌, ◌++◌, length}
use Rattle.nm_cursor.specs.Sets.{IsRising}
use Rattle.nm_cursor.proofs.collection.collect.Given as goal

abbrev pub invariant-docs : goal.invariant-docs
invariant-docs g l = (l.docs ++ g.C.Cursor.left l.cursor ≡ g.C.Cursor.left l.initial.cursor)
    × (IsRising (g.C.Cursor.left l.cursor) → IsRising (g.C.Cursor.left l.initial.cursor))
    × (l.initial.steps ≤ l.steps)

abbrev pub decreases-docs : goal.decreases-docs
decreases-docs g l = length (g.C.Cursor.left l.cursor)
