use Rattle.std.proofs.Common.{◌≡◌, ◌++◌, length, string_bytes}
use Rattle.nm_decode.specs.Charsets.{single_byte_text}
use Rattle.nm_decode.proofs.charset.decode_single_byte.Given as goal

abbrev pub invariant-runs : goal.invariant-runs
invariant-runs l = string_bytes l.text ++ single_byte_text l.charset l.rest ≡ single_byte_text l.charset l.bytes

abbrev pub decreases-runs : goal.decreases-runs
decreases-runs l = length l.rest
