use Rattle.nm_blocks.proofs.BlockLemmas.{one_spelling}
use Rattle.nm_blocks.proofs.laws.equal_blocks_are_of_equal_hits.Goals as goal

pub returns : goal.returns
returns c = one_spelling
