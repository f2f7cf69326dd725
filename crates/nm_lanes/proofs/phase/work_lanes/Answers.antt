use Rattle.std.proofs.Common.{arith}
use Rattle.nm_lanes.proofs.ZipLemmas.{zip-each}
use Rattle.nm_lanes.proofs.phase.work_lanes.Goals as goal

pub returns-then-count-gt0 : goal.returns-then-count-gt0
returns-then-count-gt0 g c = zip-each g.L.LaneWork.does c.args.lanes.now c.work_each.new.lanes (omega arith) c.work_each.ensures
