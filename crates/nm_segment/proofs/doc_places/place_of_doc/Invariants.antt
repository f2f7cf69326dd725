use Rattle.std.proofs.Common.{◌-◌, length}
use Rattle.std.specs.Ordering.{nat_cmp}
use Rattle.nm_segment.specs.Docs.{numbers}
use Rattle.nm_segment.proofs.SearchLemmas.{Between, Probed}
use Rattle.nm_segment.proofs.doc_places.place_of_doc.Given as goal

-- the document is between the two ends, if it is there
abbrev pub invariant-probes : goal.invariant-probes
invariant-probes g l = record {
  between : Between nat_cmp l.doc (numbers l.docs) 0 l.low l.high;
  probed : Probed (length l.docs) l.initial.steps l.steps (l.high - l.low);
}

abbrev pub decreases-probes : goal.decreases-probes
decreases-probes g l = l.high - l.low
