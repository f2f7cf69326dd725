use Rattle.std.proofs.Common.{arith}
use Rattle.nm_threads.proofs.NumberLemmas.{maps_later}
use Rattle.nm_threads.proofs.numbering.give_this_number.Goals as goal

pub give_number-requires-clause-maps : goal.give_number-requires-clause-maps
give_number-requires-clause-maps c = maps_later c.args.maps.now c.requires.maps c.args.number c.requires.number.0 (omega (arith, c.requires.number.1))
