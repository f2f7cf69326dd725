use Rattle.std.proofs.Common.{arith, length-drop}
use Rattle.nm_io.proofs.PutLemmas.{puts_more}
use Rattle.nm_io.proofs.std_sink.write_whole.Goals as goal

pub pieces-preserved : goal.pieces-preserved
pieces-preserved g c = record {
  bytes = puts_more _ _ _ c.args.bytes.now c.pieces.done c.in-Ok.n c.pieces.invariant.bytes c.in-Ok.ensures.bytes;
  within = omega (arith, length-drop c.pieces.done c.args.bytes.now, c.in-Ok.ensures.count);
}
