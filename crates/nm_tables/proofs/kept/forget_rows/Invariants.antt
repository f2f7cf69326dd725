use Rattle.std.proofs.Common.{◌≡◌, not, take}
use Rattle.std.specs.List.{filter}
use Rattle.std.specs.Map.{values_of}
use Rattle.nm_base.specs.Order.{has_text}
use Rattle.nm_tables.specs.Kept.{AreKept}
use Rattle.nm_tables.proofs.kept.forget_rows.Given as goal

abbrev pub invariant-ids : goal.invariant-ids
invariant-ids l = record {
  kept : AreKept l.kept;
  rows : values_of l.kept ≡ filter (λ row. not (has_text (take l.id-index l.ids) row.id)) (values_of l.initial.kept);
}
