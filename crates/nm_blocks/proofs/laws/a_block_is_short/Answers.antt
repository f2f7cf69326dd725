use Rattle.std.proofs.Common.{arith}
use Rattle.nm_blocks.specs.Blocks.{origin}
use Rattle.nm_blocks.proofs.BlockLemmas.{hits_bytes-few}
use Rattle.nm_blocks.proofs.laws.a_block_is_short.Goals as goal

pub returns : goal.returns
returns c = λ hits. omega (arith, hits_bytes-few origin hits)
