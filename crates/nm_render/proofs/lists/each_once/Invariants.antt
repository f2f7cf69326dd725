use Rattle.std.proofs.Common.{◌≡◌, take}
use Rattle.std.specs.List.{list_any}
use Rattle.nm_model_answer.specs.Listing.{each_once}
use Rattle.nm_render.proofs.lists.each_once.Given as goal

-- what was seen is what is in the list so far
abbrev pub invariant-items : goal.invariant-items
invariant-items g l = (l.once ≡ each_once g.T.PartialEq.eq (take l.item-index l.items)) × ((x : g.row.T.Denot) → list_any (g.T.PartialEq.eq x) l.seen ≡ list_any (g.T.PartialEq.eq x) l.once)
