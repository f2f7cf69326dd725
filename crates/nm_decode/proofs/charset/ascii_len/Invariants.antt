use Rattle.std.proofs.Common.{take}
use Rattle.std.specs.Str.{IsAscii}
use Rattle.nm_decode.proofs.charset.ascii_len.Given as goal

abbrev pub invariant-loop-at : goal.invariant-loop-at
invariant-loop-at l = IsAscii (take l.at l.bytes)
