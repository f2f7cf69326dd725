use Rattle.std.proofs.Common.{◌≡◌, ◌++◌}
use Rattle.nm_model_plan.specs.Plan.{message_ids, removed_files}
use Rattle.nm_sync.proofs.comparison.removed_ids.Given as goal

abbrev pub invariant-files : goal.invariant-files
invariant-files l = l.ids ++ message_ids (removed_files l.file-iterator l.listed) ≡ message_ids (removed_files l.shown.files l.listed)
