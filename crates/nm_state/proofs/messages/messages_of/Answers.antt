use Rattle.std.proofs.Common.{refl, ap, ◌∙◌, filter}
use Rattle.nm_commit.specs.Files.{has_id}
use Rattle.nm_tables.specs.FileTable.{files_in}
use Rattle.nm_parts.specs.Parts.{base_of}
use Rattle.nm_state.proofs.ThreadLemmas.{live_members}
use Rattle.nm_state.proofs.messages.messages_of.Goals as goal

pub returns : goal.returns
returns c =
    c.in_ok-live.ensures ∙ ap (filter (has_id (files_in c.args.parts.now.file_table))) c.in_ok-ids.ensures
    ∙ live_members (base_of c.args.parts.now) c.args.parts.now.labels.labels c.args.thread refl c.requires.labels
