use Rattle.std.proofs.Common.{length, ap, arith}
use Rattle.nm_segment.proofs.PieceLemmas.{length-pieces}
use Rattle.nm_segment.proofs.pieces.Pieces.get.Goals as goal

pub piece_at-requires-clause-within : goal.piece_at-requires-clause-within
piece_at-requires-clause-within c =
    omega (arith, c.requires, ap length c.as_slice.ensures.value, length-pieces 0 c.self.inside.ends.items c.self.inside.block.items, ap length c.self.view_is)
