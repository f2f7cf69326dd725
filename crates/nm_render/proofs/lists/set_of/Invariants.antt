use Rattle.std.proofs.Common.{◌≡◌, take}
use Rattle.std.specs.List.{list_any}
use Rattle.nm_render.proofs.lists.set_of.Given as goal

abbrev pub invariant-items : goal.invariant-items
invariant-items g l = (x : g.row.T.Denot) → list_any (g.T.PartialEq.eq x) l.set ≡ list_any (g.T.PartialEq.eq x) (take l.item-index l.items)
