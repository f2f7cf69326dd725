use Rattle.std.proofs.Common.{◌≡◌, ◌++◌}
use Rattle.nm_flags.specs.Renames.{renames}
use Rattle.nm_model_answer.specs.View.{message_paths}
use Rattle.nm_changes.proofs.tag_plan.add_renames.Given as goal

abbrev pub invariant-more : goal.invariant-more
invariant-more l = l.plan ++ l.rename-iterator.rest.items ≡ l.initial.plan ++ renames l.tags (message_paths l.shown.files l.id)
