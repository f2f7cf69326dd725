use Rattle.std.proofs.Common.{◌≡◌, ◌++◌, take}
use Rattle.std.specs.List.{flat_map}
use Rattle.nm_model_answer.specs.RenameOutcomes.{unmoved_line}
use Rattle.nm_log.proofs.replies.add_all_unmoved.Given as goal

abbrev pub invariant-files : goal.invariant-files
invariant-files l = l.text ≡ l.initial.text ++ flat_map unmoved_line (take l.unmoved-index l.all)
