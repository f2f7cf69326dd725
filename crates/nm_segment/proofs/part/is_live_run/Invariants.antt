use Rattle.std.proofs.Common.{◌≡◌, length}
use Rattle.std.specs.List.{list_any}
use Rattle.nm_blocks.specs.Blocks.{run_hits}
use Rattle.nm_segment.specs.Merge.{lives}
use Rattle.nm_segment.proofs.part.is_live_run.Given as goal

-- none that was taken lives
abbrev pub invariant-hits : goal.invariant-hits
invariant-hits l = list_any (λ hit. lives l.live hit.doc) (run_hits l.run) ≡ list_any (λ hit. lives l.live hit.doc) l.hits

abbrev pub decreases-hits : goal.decreases-hits
decreases-hits l = length l.hits
