use Rattle.std.proofs.Common.{◌≡◌, not, take}
use Rattle.std.specs.List.{filter, list_any}
use Rattle.nm_render.proofs.lists.others_of.Given as goal

abbrev pub invariant-items : goal.invariant-items
invariant-items g l = l.others ≡ filter (λ item. not (list_any (g.T.PartialEq.eq item) l.these)) (take l.item-index l.items)
