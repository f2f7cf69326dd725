use Rattle.std.proofs.Common.{◌≡◌, ◌+◌, map, length, drop}
use Rattle.rows.specs.Table.{begun, paragraph_count}
use Rattle.rows.proofs.paragraph.paragraphs.Given as goal

-- what was found so far, and what is left, is all
abbrev pub invariant-lines : goal.invariant-lines
invariant-lines l = length l.reader.found.items + begun l.reader.inside (map (λ line. line.now) (drop l.i l.line-items)) ≡ paragraph_count l.table
