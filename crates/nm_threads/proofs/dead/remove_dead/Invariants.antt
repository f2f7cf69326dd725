use Rattle.std.proofs.Common.{◌≡◌, not, take, nat_eq}
use Rattle.std.specs.List.{filter, list_any}
use Rattle.nm_threads.specs.Maps.{AreMaps, labelling_of}
use Rattle.nm_threads.proofs.dead.remove_dead.Given as goal

abbrev pub invariant-dead : goal.invariant-dead
invariant-dead l = record {
  maps : AreMaps l.maps;
  next : l.maps.next ≡ l.fn.maps.next;
  labels : (labelling_of l.maps).labels ≡ filter (λ label. not (list_any (nat_eq label.name) (take l.name-index l.name-items))) (labelling_of l.fn.maps).labels;
}
