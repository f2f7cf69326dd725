use Rattle.std.proofs.Common.{◌≡◌, take}
use Rattle.nm_model_answer.specs.Search.{paths_of_all}
use Rattle.nm_render.proofs.lists.paths_of_all.Given as goal

abbrev pub invariant-ids : goal.invariant-ids
invariant-ids l = l.paths ≡ paths_of_all l.snapshot (take l.id-index l.ids)
