use Rattle.std.proofs.Common.{sym}
use Rattle.nm_tables.specs.FileTable.{files_in}
use Rattle.nm_parts.proofs.TagLemmas.{no_longer_live, still_live}
use Rattle.nm_parts.proofs.removal.untag.Goals as goal

pub returns-then-is_live-clause-tagged : goal.returns-then-is_live-clause-tagged
returns-then-is_live-clause-tagged c = λ files are was others. still_live files (files_in c.args.file_table.now) c.args.message.now others c.args.tags.now are was (sym c.if-is_live.ensures)

pub returns-clause-tagged : goal.returns-clause-tagged
returns-clause-tagged c = λ files are was others. no_longer_live files (files_in c.args.file_table.now) c.args.message.now others c.args.tags.now c.remove.new.self are (sym c.if-is_live.ensures) c.in_ok-remove.ensures.found
