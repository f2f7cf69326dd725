use Rattle.std.proofs.Common.{◌≡◌, ◌++◌, length}
use Rattle.nm_blocks.specs.Blocks.{run_hits}
use Rattle.nm_segment.specs.Merge.{living_hits}
use Rattle.nm_segment.proofs.part.add_live_hits.Given as goal

-- what was written, with what lives of the hits that are left, is all
abbrev pub invariant-hits : goal.invariant-hits
invariant-hits l = l.writer ++ living_hits l.live l.hits ≡ living_hits l.live (run_hits l.run)

abbrev pub decreases-hits : goal.decreases-hits
decreases-hits l = length l.hits
