use Rattle.nm_tables.proofs.IteratorLemmas.{paths_are}
use Rattle.nm_tables.proofs.file_table.paths_of.Goals as goal

pub returns-clause-paths : goal.returns-clause-paths
returns-clause-paths c = paths_are c.args.file_table.now c.requires c.of.result c.of.ensures.paths
