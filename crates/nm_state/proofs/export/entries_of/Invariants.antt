use Rattle.std.proofs.Common.{◌≡◌, ◌++◌, length}
use Rattle.nm_threads.specs.Labels.{entries_of}
use Rattle.nm_state.proofs.export.entries_of.Given as goal

-- what is copied, and what is left, is all
abbrev pub invariant-entries : goal.invariant-entries
invariant-entries l = l.entries ++ l.rest ≡ entries_of l.labels.labels

abbrev pub decreases-entries : goal.decreases-entries
decreases-entries l = length l.rest
