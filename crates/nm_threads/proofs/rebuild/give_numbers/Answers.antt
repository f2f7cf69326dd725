use Rattle.std.proofs.Common.{ap, sym, []}
use Rattle.nm_threads.specs.Labels.{entries_of}
use Rattle.nm_threads.specs.Maps.{labelling_of}
use Rattle.nm_threads.proofs.LabelLemmas.{fits_names}
use Rattle.nm_threads.proofs.NumberLemmas.{maps_later}
use Rattle.nm_threads.proofs.OpenLemmas.{begins, entries_more, rest_more, fits_more, fits_none}
use Rattle.nm_threads.proofs.rebuild.give_numbers.Goals as goal

pub entries-init : goal.entries-init
entries-init c = record {
  maps = c.requires.maps;
  entries = ap entries_of c.requires.none;
  rest = begins c.args.maps.now c.args.entries.now c.args.next c.requires.none c.requires.first c.requires.entries;
  labels = fits_none (labelling_of c.args.maps.now).labels c.requires.none;
}

pub entries-preserved : goal.entries-preserved
entries-preserved c = record {
  maps = c.in_ok-give_this_number.ensures.maps;
  entries =
      entries_more c.entries.maps c.give_this_number.new.maps c.entries.invariant.maps c.args.entries.now c.args.next c.entries.entry-index c.entries-test.true c.entry-item.result (sym c.entry-item.is) c.entries.invariant.entries c.entries.invariant.rest
      c.entries.invariant.labels c.in_ok-give_this_number.ensures.next c.in_ok-give_this_number.ensures.labels;
  rest =
      rest_more c.entries.maps c.give_this_number.new.maps c.entries.invariant.maps c.args.entries.now c.args.next c.entries.entry-index c.entries-test.true c.entry-item.result (sym c.entry-item.is) c.entries.invariant.entries c.entries.invariant.rest
      c.entries.invariant.labels c.in_ok-give_this_number.ensures.next c.in_ok-give_this_number.ensures.labels;
  labels =
      fits_more c.entries.maps c.give_this_number.new.maps c.entries.invariant.maps c.args.entries.now c.args.next c.entries.entry-index c.entries-test.true c.entry-item.result (sym c.entry-item.is) c.entries.invariant.entries c.entries.invariant.rest
      c.entries.invariant.labels c.in_ok-give_this_number.ensures.next c.in_ok-give_this_number.ensures.labels;
}

pub returns-clause-maps : goal.returns-clause-maps
returns-clause-maps c = maps_later c.entries.maps c.entries.invariant.maps c.args.next c.entries.invariant.rest.upto c.requires.entries.bounds.1

pub returns-clause-labels : goal.returns-clause-labels
returns-clause-labels c = fits_names [] (labelling_of c.entries.maps).labels c.entries.invariant.labels
