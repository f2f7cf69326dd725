use Rattle.std.proofs.Common.{sym}
use Rattle.nm_shared.proofs.PartLemmas.{above_last}
use Rattle.nm_shared.proofs.shared_map.SharedMap.begins_part.Goals as goal

pub returns-in-Greater-clause-above : goal.returns-in-Greater-clause-above
returns-in-Greater-clause-above g c = λ _. above_last g.met.K.Ord.total c.args.key.now c.args.self.now c.in-Some.pair.now c.len.ensures.sorted c.in-Some.ensures (sym c.in-Greater.ensures)
