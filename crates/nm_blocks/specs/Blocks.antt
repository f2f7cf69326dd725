-- Blocks: the count of the hits, and each hit after the one before. Cited by `block`, `unpack` and `laws`.
use Rattle.std.specs.Prelude.{◌≡◌, ℕ, zero, suc, List, [], ◌∷◌, ◌++◌, length}
use Rattle.nm_blocks.specs.declared.hit.Hit.{Hit}
use Rattle.nm_blocks.specs.Gaps.{gaps, after}
use Rattle.nm_blocks.specs.Numbers.{number_at, number_bytes}

-- what the first hit of a block is written after, so that it is written whole
abbrev pub origin : Hit
origin = record { doc = 0; list = 0; place = 0 }

-- a hit: the three numbers that tell how far it is from the one before
abbrev pub hit_bytes : Hit → Hit → List ℕ
hit_bytes before hit = number_bytes (gaps before hit).doc ++ number_bytes (gaps before hit).list ++ number_bytes (gaps before hit).place

-- hits, each after the one before
abbrev pub hits_bytes : Hit → List Hit → List ℕ
hits_bytes before [] = []
hits_bytes before (hit ∷ hits) = hit_bytes before hit ++ hits_bytes hit hits

-- a block: how many hits there are, in one byte, and the hits
abbrev pub block_bytes : List Hit → List ℕ
block_bytes hits = length hits ∷ hits_bytes origin hits

-- the hit at the front of bytes, and the bytes after it
unfoldable pub hit_at : Hit → List ℕ → Hit × List ℕ
hit_at before bytes =
    let doc = number_at bytes in
    let list = number_at doc.1 in
    let place = number_at list.1 in
    (after before (record { doc = doc.0; list = list.0; place = place.0 }), place.1)

-- n hits at the front of bytes, and the bytes after them
unfoldable pub hits_at : ℕ → Hit → List ℕ → List Hit × List ℕ
hits_at zero before bytes = ([], bytes)
hits_at (suc left) before bytes =
    let hit = hit_at before bytes in
    let others = hits_at left hit.0 hit.1 in
    (hit.0 ∷ others.0, others.1)

-- the hits of blocks that come one after the other: those of the first, and those of the blocks after it; at most n
-- blocks, up to one that is empty
unfoldable pub blocks_hits : ℕ → List ℕ → List Hit
blocks_hits zero bytes = []
blocks_hits (suc more) [] = []
blocks_hits (suc more) (zero ∷ bytes) = []
blocks_hits (suc more) (suc count ∷ bytes) =
    let block = hits_at (suc count) origin bytes in
    block.0 ++ blocks_hits more block.1

-- the hits of all blocks in bytes, of which each takes a byte at least
unfoldable pub run_hits : List ℕ → List Hit
run_hits bytes = blocks_hits (length bytes) bytes

-- n hits that are left of a block, and then those of the blocks after it
unfoldable pub hits_left : ℕ → Hit → List ℕ → List Hit
hits_left zero before bytes = []
hits_left (suc left) before bytes =
    let block = hits_at (suc left) before bytes in
    block.0 ++ run_hits block.1

-- the bytes are whole blocks of these hits: whatever comes after them, these hits are read first
abbrev pub IsRun : List ℕ → List Hit → Type 0
IsRun bytes hits = (rest : List ℕ) → run_hits (bytes ++ rest) ≡ hits ++ run_hits rest
