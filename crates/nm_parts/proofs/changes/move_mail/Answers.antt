use Rattle.std.proofs.Common.{refl}
use Rattle.nm_parts.proofs.AddLemmas.{file_moved}
use Rattle.nm_parts.proofs.changes.move_mail.Goals as goal

pub returns-clause-parts : goal.returns-clause-parts
returns-clause-parts c =
    file_moved c.thread_laws.ensures c.args.parts.now
    (record {
      revision = c.args.parts.now.revision;
      file_table = c.move_file.new.file_table;
      kept = c.args.parts.now.kept;
      labels = c.args.parts.now.labels;
      tags = c.args.parts.now.tags;
    }) c.args.from.now c.args.to.now c.requires.parts refl refl refl c.in_ok-move_file.ensures.filed c.in_ok-move_file.ensures.files
