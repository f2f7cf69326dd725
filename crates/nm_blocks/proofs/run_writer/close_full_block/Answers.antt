use Rattle.std.proofs.Common.{append-nil, ◌∙◌}
use Rattle.nm_blocks.specs.Blocks.{block_bytes, run_hits}
use Rattle.nm_blocks.proofs.WriterLemmas.{closed, closed_hits, rising_behind}
use Rattle.nm_blocks.proofs.run_writer.close_full_block.Goals as goal

pub pack_into-requires-clause-rising : goal.pack_into-requires-clause-rising
pack_into-requires-clause-rising c = rw c.as_slice.ensures.value (rising_behind (run_hits c.args.blocks.now) c.args.waiting.now.items c.requires.rising)

pub returns-clause-writing : goal.returns-clause-writing
returns-clause-writing c = rw c.clear.ensures.items (closed c.args.blocks.now (block_bytes c.as_slice.result.now) c.pack_into.new.bytes c.args.waiting.now.items c.as_slice.result.now c.requires c.as_slice.ensures.value c.pack_into.ensures.run c.in_ok-pack_into.ensures.ok)

pub returns-clause-hits : goal.returns-clause-hits
returns-clause-hits c = rw c.clear.ensures.items (append-nil _ ∙ closed_hits c.args.blocks.now (block_bytes c.as_slice.result.now) c.pack_into.new.bytes c.args.waiting.now.items c.as_slice.result.now c.requires c.as_slice.ensures.value c.pack_into.ensures.run c.in_ok-pack_into.ensures.ok)
