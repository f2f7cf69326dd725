use Rattle.std.proofs.Common.{◌≡◌, ℕ, List, ◌++◌, take}
use Rattle.nm_segment.specs.Runs.{AreRunsOf}
use Rattle.nm_segment.proofs.gather.add_rows.Given as goal

-- the rows so far have their runs
abbrev pub invariant-rows : goal.invariant-rows
invariant-rows l = (made : List (List ℕ)) × (l.runs ≡ l.initial.runs ++ made) × AreRunsOf made (take l.row-index l.rows)
