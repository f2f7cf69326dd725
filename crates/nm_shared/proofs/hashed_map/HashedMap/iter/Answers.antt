use Rattle.nm_shared.proofs.HashedLemmas.{keys_once}
use Rattle.nm_shared.proofs.hashed_map.HashedMap.iter.Goals as goal

pub returns-clause-once : goal.returns-clause-once
returns-clause-once g c =
    keys_once g.K.Ord.cmp g.K.Hashed.hash g.met.K.Hashed.same c.self.inside.places c.self.inside.slots c.self.inside.crowded c.self.inside.next c.self.invariant c.len.ensures.sorted _ c.self.view_is
