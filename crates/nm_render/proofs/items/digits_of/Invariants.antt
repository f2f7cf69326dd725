use Rattle.std.proofs.Common.{◌≡◌, map, take}
use Rattle.nm_model_answer.specs.Search.{thread_digits}
use Rattle.nm_render.proofs.items.digits_of.Given as goal

abbrev pub invariant-names : goal.invariant-names
invariant-names l = l.texts ≡ map thread_digits (take l.name-index l.names)
