use Rattle.std.proofs.Common.{◌≡◌, [], ◌++◌, replicate}
use Rattle.nm_segment.proofs.gather.add_empty_rows.Given as goal

abbrev pub invariant-fields : goal.invariant-fields
invariant-fields l = l.rows.items ≡ l.initial.rows.items ++ replicate l.counter []
