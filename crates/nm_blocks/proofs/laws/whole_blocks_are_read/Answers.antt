use Rattle.nm_blocks.proofs.BlockLemmas.{run_is_read}
use Rattle.nm_blocks.proofs.laws.whole_blocks_are_read.Goals as goal

pub returns : goal.returns
returns c = run_is_read
