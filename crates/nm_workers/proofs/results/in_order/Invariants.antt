use Rattle.std.proofs.Common.{◌≡◌, ◌≤◌, length, take}
use Rattle.std.specs.List.{AllZip}
use Rattle.nm_workers.specs.Results.{FitPlaces}
use Rattle.nm_workers.proofs.results.in_order.Given as goal

abbrev pub invariant-inputs : goal.invariant-inputs
invariant-inputs g l =
    let gives = g.J.Job.gives l.job in
    FitPlaces gives l.inputs l.places × AllZip gives (take l.at l.inputs) l.results × (l.at ≤ l.at-end) × (l.at-end ≡ length l.inputs)
