use Rattle.std.proofs.Common.{length}
use Rattle.nm_blocks.proofs.RunLemmas.{HasPacked}
use Rattle.nm_blocks.proofs.block.pack_run.Given as goal

abbrev pub invariant-whole : goal.invariant-whole
invariant-whole l = HasPacked l.fn.bytes l.bytes l.hits l.rest

abbrev pub decreases-whole : goal.decreases-whole
decreases-whole l = length l.rest
