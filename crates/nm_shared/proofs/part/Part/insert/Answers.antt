use Rattle.std.proofs.Common.{ap, ◌∙◌, rules}
use Rattle.std.specs.BTreeMap.{insert_entry}
use Rattle.nm_shared.proofs.MapLemmas.{map_again, put_found, put_missing, put_empty}
use Rattle.nm_shared.proofs.part.Part.insert.Goals as goal

pub invariant_of-self-then-spot : goal.invariant_of-self-then-spot
invariant_of-self-then-spot g c =
    (put_found c.args.key c.spot_with_room-spot.new.runs.items c.spot_with_room-spot.result c.spot_with_room-spot.ensures.spot g.met.K.Ord.total c.self.inside.len (map_again g.K.Ord.cmp c.self.inside.runs.items c.spot_with_room-spot.new.runs.items c.self.inside.len c.self.invariant c.spot_with_room-spot.ensures.items c.spot_with_room-spot.ensures.filled) c.args.value
    c.index_mut.result.now c.replace_value.new.self c.index_mut.ensures.value c.if-spot.true c.in_ok-replace_value.ensures.ok).0

pub returns-then-spot-clause-ok : goal.returns-then-spot-clause-ok
returns-then-spot-clause-ok g c =
    (put_found c.args.key c.spot_with_room-spot.new.runs.items c.spot_with_room-spot.result c.spot_with_room-spot.ensures.spot g.met.K.Ord.total c.self.inside.len (map_again g.K.Ord.cmp c.self.inside.runs.items c.spot_with_room-spot.new.runs.items c.self.inside.len c.self.invariant c.spot_with_room-spot.ensures.items c.spot_with_room-spot.ensures.filled) c.args.value
    c.index_mut.result.now c.replace_value.new.self c.index_mut.ensures.value c.if-spot.true c.in_ok-replace_value.ensures.ok).1
    ∙ ap (λ all. insert_entry g.K.Ord.cmp all c.args.key c.args.value) (c.spot_with_room-spot.ensures.items ∙ c.self.view_is)

pub invariant_of-self-then-is_empty : goal.invariant_of-self-then-is_empty
invariant_of-self-then-is_empty g c = (put_empty g.met.K.Ord.total c.args.key c.args.value c.spot_with_room-spot.new.runs.items c.put_first.new.runs.items c.self.inside.len (map_again g.K.Ord.cmp c.self.inside.runs.items c.spot_with_room-spot.new.runs.items c.self.inside.len c.self.invariant c.spot_with_room-spot.ensures.items c.spot_with_room-spot.ensures.filled) (search rules) c.in_ok-put_first.ensures.ok).0

pub invariant_of-self-2 : goal.invariant_of-self-2
invariant_of-self-2 g c =
    (put_missing c.args.key c.spot_with_room-spot.new.runs.items c.spot_with_room-spot.result c.spot_with_room-spot.ensures.spot g.met.K.Ord.total c.self.inside.len (map_again g.K.Ord.cmp c.self.inside.runs.items c.spot_with_room-spot.new.runs.items c.self.inside.len c.self.invariant c.spot_with_room-spot.ensures.items c.spot_with_room-spot.ensures.filled) c.args.value
    c.index_mut-2.result.now c.insert.new.self c.index_mut-2.ensures.value c.if-spot.false (search rules) c.in_ok-insert.ensures.ok).0

pub returns-clause-ok : goal.returns-clause-ok
returns-clause-ok g c =
    (put_missing c.args.key c.spot_with_room-spot.new.runs.items c.spot_with_room-spot.result c.spot_with_room-spot.ensures.spot g.met.K.Ord.total c.self.inside.len (map_again g.K.Ord.cmp c.self.inside.runs.items c.spot_with_room-spot.new.runs.items c.self.inside.len c.self.invariant c.spot_with_room-spot.ensures.items c.spot_with_room-spot.ensures.filled) c.args.value
    c.index_mut-2.result.now c.insert.new.self c.index_mut-2.ensures.value c.if-spot.false (search rules) c.in_ok-insert.ensures.ok).1
    ∙ ap (λ all. insert_entry g.K.Ord.cmp all c.args.key c.args.value) (c.spot_with_room-spot.ensures.items ∙ c.self.view_is)
