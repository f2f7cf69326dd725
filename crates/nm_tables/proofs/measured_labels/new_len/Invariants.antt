use Rattle.std.proofs.Common.{◌∷◌, take}
use Rattle.nm_tables.specs.Measures.{AreSeen}
use Rattle.nm_tables.proofs.measured_labels.new_len.Given as goal

abbrev pub invariant-links : goal.invariant-links
invariant-links l = AreSeen l.labels (l.row.id ∷ take l.id-index l.id-items) l.seen l.bytes
