use Rattle.std.proofs.KnownBytes.{Consumes-trans}
use Rattle.nm_io.proofs.whole_input.take_all.Goals as goal

-- the bytes held and the piece that found no room
pub returns-then-is_err-clause-err : goal.returns-then-is_err-clause-err
returns-then-is_err-clause-err g c = (_, Consumes-trans _ _ _ _ _ c.turns.invariant.given c.in-Ok-take.ensures.bytes.0)
