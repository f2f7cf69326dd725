use Rattle.std.proofs.Common.{◌≡◌, take}
use Rattle.nm_model_plan.specs.Plan.{message_ids}
use Rattle.nm_changes.proofs.additions.ids_of.Given as goal

abbrev pub invariant-added : goal.invariant-added
invariant-added l = l.ids ≡ message_ids (take l.arrival-index l.added)
