use Rattle.std.proofs.Common.{◌≡◌, take}
use Rattle.nm_base.specs.Order.{sorted}
use Rattle.nm_dump.proofs.dump_writer.in_order.Given as goal

abbrev pub invariant-ids : goal.invariant-ids
invariant-ids l = l.set ≡ sorted (take l.id-index l.ids)
