-- What is held is what the source gave, and none of its calls failed.
use Rattle.std.proofs.Common.{◌≡◌, ◌<◌, length, ◌+◌, ◌-◌}
use Rattle.std.specs.Io.KnownBytes.{Consumes}
use Rattle.nm_io.proofs.whole_input.take_all.Given as goal

abbrev pub invariant-turns : goal.invariant-turns
invariant-turns g l = record {
  given : Consumes (g.S.Source.observed l.fn.source).bytes (g.S.Source.observed l.source).bytes l.all;
  faults : (g.S.Source.observed l.source).faults ≡ (g.S.Source.observed l.fn.source).faults;
  room : 0 < length l.piece.items;
}

abbrev pub decreases-turns : goal.decreases-turns
decreases-turns g l = (l.max + 1) - length l.all
