use Rattle.std.proofs.Common.{◌≡◌, take}
use Rattle.nm_render.proofs.items.texts_of_tags.Given as goal

abbrev pub invariant-tags : goal.invariant-tags
invariant-tags l = l.texts ≡ take l.tag-index l.tags
