use Rattle.std.proofs.Common.{arith}
use Rattle.nm_tables.proofs.MeasureLemmas.{entry_is}
use Rattle.nm_tables.proofs.measured_labels.entry_len.Goals as goal

pub returns : goal.returns
returns c = omega (arith, c.id_len.ensures, c.saturating_add.ensures, entry_is c.args.id.now)
