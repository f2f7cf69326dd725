use Rattle.std.proofs.Common.{◌∙◌}
use Rattle.nm_tables.proofs.FileTableLemmas.{copied_is, has_place}
use Rattle.nm_tables.proofs.file_table.has_file.Goals as goal

pub returns : goal.returns
returns c = copied_is c.get.result c.is_some.result _ c.is_some.ensures c.get.ensures ∙ has_place c.args.file_table.now c.requires c.args.path.now
