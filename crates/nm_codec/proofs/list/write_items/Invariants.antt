use Rattle.std.proofs.Common.{◌≡◌, ◌++◌, take}
use Rattle.std.specs.List.{flat_map}
use Rattle.nm_codec.proofs.list.write_items.Given as goal

abbrev pub invariant-items : goal.invariant-items
invariant-items g l = l.writer ≡ l.fn.writer ++ flat_map g.F.Format.grammar.bytes (take l.item-index l.items)
