-- Where a text's bytes are: short ones in the value itself, others in blocks that copies share. Cited by `text`.
use Rattle.std.specs.Prelude.{ℕ, List, take}
use Rattle.std.specs.Arc.{arc_str_bytes, arc_value}
use Rattle.nm_base.specs.declared.text.Stored.{Stored}
use Rattle.nm_base.specs.declared.text.Stored.TheVariants.{Short, Middle, Long}

-- the bytes of the text
abbrev pub stored_bytes : Stored → List ℕ
stored_bytes (Short it) = take it.len it.bytes
stored_bytes (Middle it) = take (arc_value it).len (arc_value it).bytes
stored_bytes (Long it) = arc_str_bytes it
