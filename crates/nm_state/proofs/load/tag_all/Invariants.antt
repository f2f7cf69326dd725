use Rattle.std.proofs.Common.{◌≡◌, take}
use Rattle.nm_state.proofs.load.tag_all.Given as goal

abbrev pub invariant-tags : goal.invariant-tags
invariant-tags l = l.all ≡ take l.tagged-index l.tags
