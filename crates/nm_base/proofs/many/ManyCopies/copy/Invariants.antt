use Rattle.std.proofs.Common.{◌≡◌, take}
use Rattle.nm_base.proofs.many.ManyCopies.copy.Given as goal

abbrev pub invariant-items : goal.invariant-items
invariant-items g l = l.copied.items ≡ take l.item-index l.item-items
