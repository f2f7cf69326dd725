use Rattle.nm_workers.specs.Results.{AreGiven, FitPlaces}
use Rattle.nm_workers.proofs.results.put_all.Given as goal

-- the places fit, and what is left to put fits too
abbrev pub invariant-done : goal.invariant-done
invariant-done g l =
    let gives = g.J.Job.gives l.job in
    FitPlaces gives l.inputs l.places × AreGiven gives l.inputs l.placed-iterator.rest.items
