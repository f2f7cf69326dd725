use Rattle.std.proofs.Common.{◌≡◌, take}
use Rattle.nm_model_answer.specs.Search.{tags_of_all}
use Rattle.nm_render.proofs.lists.tags_of_all.Given as goal

abbrev pub invariant-ids : goal.invariant-ids
invariant-ids l = l.tags ≡ tags_of_all l.snapshot (take l.id-index l.ids)
