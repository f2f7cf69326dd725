use Rattle.std.proofs.Common.{◌≡◌, length, min, take}
use Rattle.std.specs.List.{flat_map, list_all}
use Rattle.nm_base.specs.Limits.{max_count}
use Rattle.nm_codec.proofs.list.items_len.Given as goal

abbrev pub invariant-items : goal.invariant-items
invariant-items g l =
    (l.len ≡ min (length (flat_map g.F.Format.grammar.bytes (take l.item-index l.items))) max_count)
    × (list_all g.F.Format.grammar.is_value (take l.item-index l.items) ≡ list_all g.F.Format.asked (take l.item-index l.items))
