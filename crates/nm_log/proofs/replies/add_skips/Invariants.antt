use Rattle.std.proofs.Common.{◌≡◌, ◌++◌, take}
use Rattle.std.specs.List.{flat_map}
use Rattle.nm_model_answer.specs.NewText.{skip_line}
use Rattle.nm_log.proofs.replies.add_skips.Given as goal

abbrev pub invariant-files : goal.invariant-files
invariant-files l = l.text ≡ l.initial.text ++ flat_map skip_line (take l.skipped-index l.all)
