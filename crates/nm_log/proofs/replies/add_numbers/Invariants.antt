use Rattle.std.proofs.Common.{◌≡◌, ◌++◌, take}
use Rattle.std.specs.List.{flat_map}
use Rattle.nm_model_answer.specs.NewText.{number_after}
use Rattle.nm_log.proofs.replies.add_numbers.Given as goal

abbrev pub invariant-numbers : goal.invariant-numbers
invariant-numbers l = l.text ≡ l.initial.text ++ flat_map (λ n. number_after n.0.now n.1) (take l.before-index l.numbers)
