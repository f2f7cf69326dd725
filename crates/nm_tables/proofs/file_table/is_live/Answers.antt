use Rattle.std.proofs.Common.{◌∙◌}
use Rattle.nm_tables.proofs.FileTableLemmas.{copied_is, has_places}
use Rattle.nm_tables.proofs.file_table.is_live.Goals as goal

pub returns : goal.returns
returns c = copied_is c.get.result c.is_some.result _ c.is_some.ensures c.get.ensures ∙ has_places c.args.file_table.now c.requires c.args.id.now
