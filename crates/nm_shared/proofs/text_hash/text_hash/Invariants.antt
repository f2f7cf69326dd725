use Rattle.std.proofs.Common.{◌≡◌, take}
use Rattle.nm_shared.specs.TextHash.{text_hash}
use Rattle.nm_shared.proofs.text_hash.text_hash.Given as goal

abbrev pub invariant-bytes : goal.invariant-bytes
invariant-bytes l = l.hash ≡ text_hash (take l.byte-index l.bytes)
