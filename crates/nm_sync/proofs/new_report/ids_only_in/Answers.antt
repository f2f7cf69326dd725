use Rattle.std.proofs.Common.{◌∙◌}
use Rattle.nm_sync.proofs.SameLemmas.{ids-end}
use Rattle.nm_sync.proofs.new_report.ids_only_in.Goals as goal

pub returns : goal.returns
returns c = c.len.ensures.len ∙ ids-end c.args.first.now.files c.args.second.now.files c.files.ids c.files.file-iterator c.in-None.ensures.steps.0 c.files.invariant
