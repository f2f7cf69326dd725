use Rattle.std.proofs.Common.{◌≡◌, take}
use Rattle.nm_shared.proofs.run.copied.Given as goal

abbrev pub invariant-items : goal.invariant-items
invariant-items g l = l.copied.items ≡ take l.item-index l.items
