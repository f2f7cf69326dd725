use Rattle.nm_workers.specs.Results.{AreGiven}
use Rattle.nm_workers.proofs.worker.run_left.Given as goal

abbrev pub invariant-turns : goal.invariant-turns
invariant-turns g l = AreGiven (g.J.Job.gives l.job) l.inputs l.done.items
