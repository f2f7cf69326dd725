use Rattle.std.proofs.Common.{◌≡◌, length, Ok}
use Rattle.nm_tags.specs.Decoding.{decoded_bytes, joined}
use Rattle.nm_tags.proofs.decode.decoded_bytes.Given as goal

-- what was decoded, and what the rest represents, are all
abbrev pub invariant-bytes : goal.invariant-bytes
invariant-bytes l = joined (Ok l.decoded) (decoded_bytes l.rest) ≡ decoded_bytes l.encoded

abbrev pub decreases-bytes : goal.decreases-bytes
decreases-bytes l = length l.rest
