use Rattle.std.proofs.Common.{◌∙◌, ap, sym}
use Rattle.nm_tables.specs.FileTable.{at_text}
use Rattle.nm_tables.proofs.SortedLemmas.{found_sorted}
use Rattle.nm_tables.proofs.message_tags.MessageTags.get.Goals as goal

pub returns : goal.returns
returns c = c.get.ensures ∙ sym (found_sorted c.self.inside.map c.args.id.now) ∙ ap (at_text c.args.id.now) c.self.view_is
