use Rattle.std.proofs.Common.{◌≡◌, ◌++◌, take}
use Rattle.std.specs.List.{flat_map}
use Rattle.nm_model_answer.specs.Dump.{doubled}
use Rattle.nm_dump.proofs.line_writer.push_doubled.Given as goal

abbrev pub invariant-bytes : goal.invariant-bytes
invariant-bytes l = l.text ≡ l.initial.text ++ flat_map doubled (take l.byte-index l.bytes)
