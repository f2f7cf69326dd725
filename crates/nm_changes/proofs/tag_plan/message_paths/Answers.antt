use Rattle.std.proofs.Common.{sym, ◌∙◌}
use Rattle.nm_changes.proofs.TagPlanLemmas.{no-paths}
use Rattle.nm_changes.proofs.tag_plan.message_paths.Goals as goal

pub returns-in_default : goal.returns-in_default
returns-in_default c = c.new-paths.ensures ∙ sym (no-paths c.args.after.now.files c.args.id.now c.in_default.ensures)
