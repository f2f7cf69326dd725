use Rattle.std.proofs.Common.{◌≡◌, ◌++◌, take}
use Rattle.std.specs.List.{flat_map}
use Rattle.nm_codec.specs.Encoding.{text_bytes}
use Rattle.nm_tables.proofs.row_bytes.put_ids.Given as goal

abbrev pub invariant-ids : goal.invariant-ids
invariant-ids l = l.writer ≡ l.fn.writer ++ flat_map text_bytes (take l.id-index l.ids)
