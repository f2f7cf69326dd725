use Rattle.std.proofs.Common.{◌≡◌, ◌+◌, ◌-◌, ◌*◌, ◌≤◌, ◌++◌, drop, length}
use Rattle.nm_blocks.specs.Hits.{all_fit}
use Rattle.nm_blocks.specs.Blocks.{hits_bytes, origin}
use Rattle.nm_blocks.proofs.block.put_hits.Given as goal

-- what is written, and what is still to write, is all
abbrev pub invariant-hits : goal.invariant-hits
invariant-hits l =
    (l.draft ++ hits_bytes l.before (drop l.hit-index l.hits) ≡ l.fn.draft ++ hits_bytes origin l.hits)
    × (length l.draft + 16 * (length l.hits - l.hit-index) ≤ 2049)
    × (all_fit l.hits ≡ all_fit (drop l.hit-index l.hits))
