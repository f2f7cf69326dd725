use Rattle.std.proofs.Common.{◌≡◌, [], drop, take}
use Rattle.nm_threads.specs.Fits.{Fits}
use Rattle.nm_threads.specs.Labels.{entries_of}
use Rattle.nm_threads.specs.Maps.{AreMaps, labelling_of}
use Rattle.nm_threads.proofs.OpenLemmas.{ToCome}
use Rattle.nm_threads.proofs.rebuild.give_numbers.Given as goal

abbrev pub invariant-entries : goal.invariant-entries
invariant-entries l = record {
  maps : AreMaps l.maps;
  entries : entries_of (labelling_of l.maps).labels ≡ take l.entry-index l.entries;
  rest : ToCome (entries_of (labelling_of l.maps).labels) l.maps.next l.next (drop l.entry-index l.entries);
  labels : Fits [] (labelling_of l.maps).labels;
}
