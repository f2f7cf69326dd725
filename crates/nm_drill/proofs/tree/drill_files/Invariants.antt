use Rattle.std.proofs.Common.{◌≡◌}
use Rattle.nm_drill.specs.Drill.{drill_files}
use Rattle.nm_drill.proofs.tree.drill_files.Given as goal

abbrev pub invariant-mails : goal.invariant-mails
invariant-mails l = l.files ≡ drill_files l.before
