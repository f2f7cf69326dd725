use Rattle.std.proofs.Common.{◌≡◌, ◌++◌, take}
use Rattle.std.specs.List.{flat_map}
use Rattle.nm_model_answer.specs.Show.{ended}
use Rattle.nm_render.proofs.body.push_texts.Given as goal

abbrev pub invariant-bodies : goal.invariant-bodies
invariant-bodies l = l.text ≡ l.initial.text ++ flat_map ended (take l.body-index l.body-items)
