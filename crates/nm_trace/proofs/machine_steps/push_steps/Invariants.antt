use Rattle.std.proofs.Common.{◌≡◌, ◌≤◌, ◌++◌, length}
use Rattle.std.specs.Vec.Iter.{into_iter_items, into_iter_len}
use Rattle.nm_trace.specs.Trace.{steps_of}
use Rattle.nm_trace.proofs.machine_steps.push_steps.Given as goal

-- the steps so far, and those of the marks that are left, are all
abbrev pub invariant-marks : goal.invariant-marks
invariant-marks l = record {
  list : l.steps.0 ++ steps_of (into_iter_items l.marks) (into_iter_items l.commits) ≡ l.fn.steps.0 ++ steps_of l.fn.marks l.fn.commits;
  spare : length (steps_of (into_iter_items l.marks) (into_iter_items l.commits)) ≤ l.steps.1;
  marks_whole : into_iter_len l.marks ≡ length (into_iter_items l.marks);
  commits_whole : into_iter_len l.commits ≡ length (into_iter_items l.commits);
}

abbrev pub decreases-marks : goal.decreases-marks
decreases-marks l = into_iter_len l.marks
