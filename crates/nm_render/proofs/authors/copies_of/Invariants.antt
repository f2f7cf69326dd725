use Rattle.std.proofs.Common.{◌≡◌, take}
use Rattle.nm_render.proofs.authors.copies_of.Given as goal

abbrev pub invariant-ids : goal.invariant-ids
invariant-ids l = l.copies ≡ take l.id-index l.ids
