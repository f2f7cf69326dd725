use Rattle.std.proofs.Common.{◌≡◌, replicate}
use Rattle.nm_publish.proofs.start_point.readers_of.Given as goal

-- n readers as turns were done, and the writer's side as it was
abbrev pub invariant-readers : goal.invariant-readers
invariant-readers l = (l.shower ≡ l.initial.shower) × (l.readers ≡ replicate l.counter l.initial.shower.shown)
