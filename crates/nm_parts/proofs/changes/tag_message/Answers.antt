use Rattle.nm_tables.specs.FileTable.{files_in}
use Rattle.nm_parts.proofs.TagLemmas.{retagged_one}
use Rattle.nm_parts.proofs.changes.tag_message.Goals as goal

pub returns-clause-parts : goal.returns-clause-parts
returns-clause-parts c =
    let are = c.requires.parts in
    record {
      filed = are.filed;
      kept = are.kept;
      labels = are.labels;
      held = record { rows = are.held.rows; entries = are.held.entries };
      tagged = retagged_one (files_in c.args.parts.now.file_table) c.args.parts.now.tags c.set_tags.new.all c.args.id.now c.in_ok-copy.field-0 c.in_ok-set_tags.ensures.sorted c.in_ok-set_tags.ensures.found are.tagged c.requires.live;
    }
