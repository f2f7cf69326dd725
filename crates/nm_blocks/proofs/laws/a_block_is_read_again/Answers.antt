use Rattle.nm_blocks.proofs.BlockLemmas.{block_again}
use Rattle.nm_blocks.proofs.laws.a_block_is_read_again.Goals as goal

pub returns : goal.returns
returns c = λ hits block. block_again hits block.some block.rising block.fitting
