use Rattle.nm_blocks.specs.Blocks.{run_hits}
use Rattle.nm_blocks.proofs.WriterLemmas.{rising_behind}
use Rattle.nm_blocks.proofs.run_writer.RunWriter.add_to.Goals as goal

pub pack_run-requires : goal.pack_run-requires
pack_run-requires c = rw c.as_slice-2.ensures.value (rising_behind (run_hits c.self.inside.blocks) c.self.inside.waiting.items c.self.invariant.rising)
