use Rattle.nm_threads.specs.Labels.{entries_of}
use Rattle.nm_tables.proofs.MeasureLemmas.{has_number_is}
use Rattle.nm_tables.proofs.measured_labels.has_number.Goals as goal

pub returns : goal.returns
returns c = has_number_is (entries_of c.args.labels.now.labels) c.args.id.now c.number_of.result c.is_some.result c.is_some.ensures c.number_of.ensures
