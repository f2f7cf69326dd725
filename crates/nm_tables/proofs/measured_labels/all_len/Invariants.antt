use Rattle.std.proofs.Common.{◌≡◌, take}
use Rattle.nm_tables.specs.Measures.{entries_len}
use Rattle.nm_tables.proofs.measured_labels.all_len.Given as goal

abbrev pub invariant-entries : goal.invariant-entries
invariant-entries l = l.bytes ≡ entries_len (take l.entry-index l.entries)
