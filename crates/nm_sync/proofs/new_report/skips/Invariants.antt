use Rattle.std.proofs.Common.{◌≡◌, take}
use Rattle.std.specs.List.{flat_map}
use Rattle.nm_model_answer.specs.NewText.{skip_given}
use Rattle.nm_sync.proofs.new_report.skips.Given as goal

abbrev pub invariant-given : goal.invariant-given
invariant-given l = l.skips ≡ flat_map skip_given (take l.answer-index l.given)
