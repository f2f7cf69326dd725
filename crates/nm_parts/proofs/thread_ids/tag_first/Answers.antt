use Rattle.std.proofs.Common.{sym}
use Rattle.nm_tables.specs.FileTable.{files_in}
use Rattle.nm_parts.proofs.TagLemmas.{mailed_again, mailed_first}
use Rattle.nm_parts.proofs.thread_ids.tag_first.Goals as goal

pub returns-then-is_live-clause-tagged : goal.returns-then-is_live-clause-tagged
returns-then-is_live-clause-tagged c = λ path are. mailed_again (files_in c.args.file_table.now) path c.args.facts.now c.args.tags.now are (sym c.if-is_live.ensures)

pub returns-clause-tagged : goal.returns-clause-tagged
returns-clause-tagged c = λ path are.
    mailed_first (files_in c.args.file_table.now) path c.args.facts.now c.args.tags.now c.set_tags.new.all c.in_ok-first_tags.field-0 c.in_ok-set_tags.ensures.sorted c.in_ok-set_tags.ensures.found are
