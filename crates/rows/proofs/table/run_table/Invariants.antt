use Rattle.std.proofs.Common.{◌≡◌}
use Rattle.rows.specs.Report.{told}
use Rattle.rows.proofs.table.run_table.Given as goal

abbrev pub invariant-rows : goal.invariant-rows
invariant-rows g l = told l.report ≡ l.paragraph-index
