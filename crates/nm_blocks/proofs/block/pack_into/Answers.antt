use Rattle.nm_blocks.proofs.BlockLemmas.{block_again}
use Rattle.nm_blocks.proofs.block.pack_into.Goals as goal

pub returns-clause-run : goal.returns-clause-run
returns-clause-run c = block_again c.args.hits.now c.requires.some c.requires.rising c.put_hits.ensures.fit
