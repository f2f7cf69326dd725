use Rattle.std.proofs.Common.{◌≡◌, take}
use Rattle.nm_render.proofs.items.texts_of_ids.Given as goal

abbrev pub invariant-ids : goal.invariant-ids
invariant-ids l = l.texts ≡ take l.id-index l.ids
