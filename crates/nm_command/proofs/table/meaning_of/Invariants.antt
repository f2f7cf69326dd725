use Rattle.std.proofs.Common.{◌≡◌, drop, map}
use Rattle.nm_command.specs.Table.{meaning_of}
use Rattle.nm_command.proofs.table.meaning_of.Given as goal

-- the rows that are left say the same of the word
abbrev pub invariant-rows : goal.invariant-rows
invariant-rows g l =
    meaning_of l.word (drop l.name-index (map (λ row. (row.0.now, row.1)) l.rows)) ≡ meaning_of l.word (map (λ row. (row.0.now, row.1)) l.rows)
