use Rattle.nm_shared.proofs.HashedLemmas.{last_hashed, last_are}
use Rattle.nm_shared.proofs.hashed_map.add_slot.Goals as goal

pub returns-clause-hashed : goal.returns-clause-hashed
returns-clause-hashed g c =
    last_hashed g.K.Ord.cmp g.K.Hashed.hash g.met.K.Hashed.same c.args.places.now c.insert.new.self c.args.slots.now c.insert-2.new.self c.args.crowded.now c.args.next.now c.requires.hashed c.args.pair.0 c.args.pair.1 c.args.code
    c.requires.code c.requires.free c.requires.apart c.in_ok-insert.ensures.found c.len.ensures.sorted c.in_ok-insert-2.ensures.found

pub returns-clause-found : goal.returns-clause-found
returns-clause-found g c =
    last_are g.K.Ord.cmp g.K.Hashed.hash g.met.K.Hashed.same c.args.places.now c.insert.new.self c.args.slots.now c.insert-2.new.self c.args.crowded.now c.args.next.now c.requires.hashed c.args.pair.0 c.args.pair.1 c.args.code
    c.requires.code c.requires.free c.requires.apart c.in_ok-insert.ensures.found c.len.ensures.sorted c.in_ok-insert-2.ensures.found
