use Rattle.std.proofs.Common.{◌≡◌, ◌≤◌, ◌∷◌, length}
use Rattle.std.specs.List.{filter}
use Rattle.nm_filter.proofs.kept.pass.Given as goal

abbrev pub invariant-failing : goal.invariant-failing
invariant-failing g l = (filter (g.P.Condition.holds l.condition) (l.found ∷ g.C.Cursor.left l.inner) ≡ filter (g.P.Condition.holds l.condition) (l.initial.found ∷ g.C.Cursor.left l.initial.inner))
    × (l.initial.steps ≤ l.steps)

abbrev pub decreases-failing : goal.decreases-failing
decreases-failing g l = length (g.C.Cursor.left l.inner)
