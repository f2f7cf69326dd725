use Rattle.std.proofs.Common.{◌≡◌, ◌++◌, map}
use Rattle.nm_model_plan.specs.Plan.{add_of}
use Rattle.nm_changes.proofs.additions.adds.Given as goal

abbrev pub invariant-added : goal.invariant-added
invariant-added l = l.changes ++ map add_of l.path-iterator.rest.items ≡ map add_of l.fn.added
