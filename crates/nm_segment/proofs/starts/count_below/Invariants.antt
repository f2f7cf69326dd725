use Rattle.std.proofs.Common.{◌-◌, length}
use Rattle.nm_segment.proofs.SearchLemmas.{Probed}
use Rattle.nm_segment.proofs.StartLemmas.{Sides}
use Rattle.nm_segment.proofs.starts.count_below.Given as goal

-- the words before low are below the text, and those from high on are not
abbrev pub invariant-probes : goal.invariant-probes
invariant-probes g l = record {
  sides : Sides l.words l.start l.low l.high;
  probed : Probed (length l.words) l.initial.steps l.steps (l.high - l.low);
}

abbrev pub decreases-probes : goal.decreases-probes
decreases-probes g l = l.high - l.low
