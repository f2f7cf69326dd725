-- A number in bytes: groups of seven bits, the lowest first, with the top bit set in all but the last, in the fewest
-- bytes. Cited by `number` and `Blocks`.
use Rattle.std.specs.Prelude.{ℕ, zero, suc, ◌+◌, ◌-◌, ◌*◌, ◌/◌, ◌%◌, nat_lt, List, [], ◌∷◌, if◌then◌else◌}
use Rattle.nm_blocks.specs.Gaps.{capped}

-- a number below 128 is one byte; a larger one its lowest seven bits with the top bit set, and then the number of its
-- higher bits; in at most n bytes after the first
unfoldable pub groups : ℕ → ℕ → List ℕ
groups zero n = n ∷ []
groups (suc more) n = if nat_lt n 128 then n ∷ [] else (n % 128 + 128) ∷ groups more (n / 128)

-- a number of 32 bits, which has five bytes at most
unfoldable pub number_bytes : ℕ → List ℕ
number_bytes n = groups 4 n

-- the number at the front of bytes, and the bytes after it; one that is above 32 bits is read as the largest number
unfoldable pub number_at : List ℕ → ℕ × List ℕ
number_at [] = (0, [])
number_at (byte ∷ bytes) =
    if nat_lt byte 128 then (byte, bytes) else (let higher = number_at bytes in (capped (byte - 128 + 128 * higher.0), higher.1))
