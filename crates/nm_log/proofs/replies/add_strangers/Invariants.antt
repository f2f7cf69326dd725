use Rattle.std.proofs.Common.{◌≡◌, ◌++◌, take}
use Rattle.std.specs.List.{flat_map}
use Rattle.nm_model_answer.specs.Restore.{stranger_line}
use Rattle.nm_log.proofs.replies.add_strangers.Given as goal

abbrev pub invariant-strangers : goal.invariant-strangers
invariant-strangers l = l.text ≡ l.initial.text ++ flat_map stranger_line (take l.id-index l.strangers)
