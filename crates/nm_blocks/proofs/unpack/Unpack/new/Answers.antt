use Rattle.std.proofs.Common.{◌∙◌}
use Rattle.nm_blocks.proofs.BlockLemmas.{run_is_read}
use Rattle.nm_blocks.proofs.unpack.Unpack.new.Goals as goal

pub returns-clause-run : goal.returns-clause-run
returns-clause-run c = λ hits run. c.at_block.ensures ∙ run_is_read c.args.bytes.now hits run
