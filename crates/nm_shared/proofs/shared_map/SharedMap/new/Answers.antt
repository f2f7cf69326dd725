use Rattle.nm_shared.proofs.MapLemmas.{map_of_none}
use Rattle.nm_shared.proofs.shared_map.SharedMap.new.Goals as goal

pub invariant_of-result : goal.invariant_of-result
invariant_of-result g c = map_of_none g.K.Ord.cmp c.new.result.items c.new.ensures.items
