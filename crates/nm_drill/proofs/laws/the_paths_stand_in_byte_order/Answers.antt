use Rattle.std.proofs.Common.{arith}
use Rattle.nm_drill.proofs.PathLemmas.{in_order, paths_rise}
use Rattle.nm_drill.proofs.laws.the_paths_stand_in_byte_order.Goals as goal

pub returns-clause-two : goal.returns-clause-two
returns-clause-two c = paths_rise

pub returns-clause-all : goal.returns-clause-all
returns-clause-all c n small = in_order n 1 (omega arith)
