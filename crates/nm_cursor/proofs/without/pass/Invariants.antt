use Rattle.std.proofs.Common.{◌≡◌, ◌≤◌, ◌∷◌, length}
use Rattle.nm_cursor.specs.Sets.{IsRising, difference}
use Rattle.nm_cursor.proofs.without.pass.Given as goal

abbrev pub invariant-had : goal.invariant-had
invariant-had g l = (difference (l.wanted ∷ g.A.Cursor.left l.first) l.second ≡ difference (l.initial.wanted ∷ g.A.Cursor.left l.initial.first) l.initial.second)
    × IsRising (l.wanted ∷ g.A.Cursor.left l.first)
    × (l.initial.steps ≤ l.steps)

abbrev pub decreases-had : goal.decreases-had
decreases-had g l = length (g.A.Cursor.left l.first)
