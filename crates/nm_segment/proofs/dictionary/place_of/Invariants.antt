use Rattle.std.proofs.Common.{◌-◌, [], length}
use Rattle.std.specs.Cmp.Lexicographic.{slice_cmp}
use Rattle.std.specs.Ordering.{nat_cmp}
use Rattle.nm_segment.proofs.SearchLemmas.{Between, Probed}
use Rattle.nm_segment.proofs.dictionary.place_of.Given as goal

-- the word is between the two ends, if it is there
abbrev pub invariant-probes : goal.invariant-probes
invariant-probes g l = record {
  between : Between (slice_cmp nat_cmp) l.word l.words [] l.low l.high;
  probed : Probed (length l.words) l.initial.steps l.steps (l.high - l.low);
}

abbrev pub decreases-probes : goal.decreases-probes
decreases-probes g l = l.high - l.low
