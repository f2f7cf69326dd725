use Rattle.std.proofs.Common.{◌≡◌, ◌≤◌, ◌∷◌, length}
use Rattle.nm_cursor.specs.Sets.{IsRising, intersection}
use Rattle.nm_cursor.proofs.both.meet.Given as goal

abbrev pub invariant-leaps : goal.invariant-leaps
invariant-leaps g l = (intersection (l.wanted ∷ g.A.Cursor.left l.first) (g.B.Cursor.left l.second) ≡ intersection (l.initial.wanted ∷ g.A.Cursor.left l.initial.first) (g.B.Cursor.left l.initial.second))
    × IsRising (l.wanted ∷ g.A.Cursor.left l.first)
    × (l.initial.steps ≤ l.steps)

abbrev pub decreases-leaps : goal.decreases-leaps
decreases-leaps g l = length (g.A.Cursor.left l.first)
