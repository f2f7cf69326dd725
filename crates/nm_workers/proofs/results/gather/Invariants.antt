use Rattle.std.proofs.Common.{All, IfOk}
use Rattle.nm_workers.specs.Results.{AreGiven, FitPlaces}
use Rattle.nm_workers.proofs.results.gather.Given as goal

-- the places fit, and what is left to put fits too
abbrev pub invariant-lists : goal.invariant-lists
invariant-lists g l =
    let gives = g.J.Job.gives l.job in
    FitPlaces gives l.inputs l.places × All (λ list. IfOk list (λ done. AreGiven gives l.inputs done.items)) l.list-iterator.rest.items
