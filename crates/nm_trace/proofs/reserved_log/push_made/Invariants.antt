use Rattle.std.proofs.Common.{◌≡◌, ◌+◌, ◌++◌, replicate}
use Rattle.nm_trace.specs.declared.trace.Mark.TheVariants.{Made}
use Rattle.nm_trace.proofs.reserved_log.push_made.Given as goal

abbrev pub invariant-made : goal.invariant-made
invariant-made l = record {
  list : l.marks.0 ≡ l.fn.marks.0 ++ replicate l._mark Made;
  spare : l.marks.1 + l._mark ≡ l.fn.marks.1;
}
