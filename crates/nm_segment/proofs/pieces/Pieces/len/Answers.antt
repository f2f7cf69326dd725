use Rattle.std.proofs.Common.{length, ap, arith}
use Rattle.nm_segment.proofs.PieceLemmas.{length-pieces}
use Rattle.nm_segment.proofs.pieces.Pieces.len.Goals as goal

pub returns : goal.returns
returns c = omega (arith, c.self.inside.ends.ok.0, length-pieces 0 c.self.inside.ends.items c.self.inside.block.items, ap length c.self.view_is)
