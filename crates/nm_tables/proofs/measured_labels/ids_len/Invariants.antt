use Rattle.std.proofs.Common.{◌≡◌, take}
use Rattle.nm_tables.specs.Measures.{ids_len}
use Rattle.nm_tables.proofs.measured_labels.ids_len.Given as goal

abbrev pub invariant-ids : goal.invariant-ids
invariant-ids l = l.bytes ≡ ids_len (take l.id-index l.ids)
