use Rattle.std.proofs.Common.{take}
use Rattle.nm_parts.specs.Halves.{InTurn, IsLabelledBy}
use Rattle.nm_parts.proofs.halves.label_all.Given as goal

abbrev pub invariant-changes : goal.invariant-changes
invariant-changes l = InTurn IsLabelledBy (take l.change-index l.changes) l.fn.before l.labels
