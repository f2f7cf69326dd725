use Rattle.std.proofs.Common.{◌≡◌, ◌++◌, take}
use Rattle.nm_state.proofs.load.all_rows.Given as goal

abbrev pub invariant-kept : goal.invariant-kept
invariant-kept l = l.rows ≡ l.initial.rows ++ take l.row-index l.row-items
