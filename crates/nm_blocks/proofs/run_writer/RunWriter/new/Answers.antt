use Rattle.std.proofs.Common.{refl}
use Rattle.nm_blocks.proofs.WriterLemmas.{nothing_written}
use Rattle.nm_blocks.proofs.ReadLemmas.{run_hits-nil}
use Rattle.nm_blocks.proofs.run_writer.RunWriter.new.Goals as goal

pub invariant_of-result : goal.invariant_of-result
invariant_of-result c = rw (c.new.ensures, c.new-2.ensures.items) nothing_written

pub returns : goal.returns
returns c = rw (c.new.ensures, c.new-2.ensures.items, run_hits-nil) refl
