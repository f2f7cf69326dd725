use Rattle.nm_tables.proofs.FileTableLemmas.{no_place, no_file, lies_there}
use Rattle.nm_tables.proofs.file_table.lying_at.Goals as goal

pub unreachable-requires : goal.unreachable-requires
unreachable-requires c = no_place c.args.file_table.now c.requires.filed c.args.path.now c.requires.there c.in_default.ensures

pub unreachable-requires-in_default-get : goal.unreachable-requires-in_default-get
unreachable-requires-in_default-get c = no_file c.args.file_table.now c.requires.filed c.args.path.now c.requires.there c.in-Some.place.now c.in-Some.ensures c.in_default-get.ensures

pub returns-clause-file : goal.returns-clause-file
returns-clause-file c = lies_there c.args.file_table.now c.requires.filed c.args.path.now c.in-Some.place.now c.in-Some.ensures c.in-Some-get.file.now c.in-Some-get.ensures
