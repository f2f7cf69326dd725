use Rattle.std.proofs.Common.{sym, ◌∙◌}
use Rattle.nm_sync.proofs.ScanLemmas.{none-removed}
use Rattle.nm_sync.proofs.comparison.removed_ids.Goals as goal

pub returns-then-is_empty : goal.returns-then-is_empty
returns-then-is_empty c = none-removed c.args.shown.now.files c.args.listed.now c.args.away.now c.new-ids.result c.requires (sym c.is_empty.ensures ∙ c.if-is_empty.true) c.new-ids.ensures
