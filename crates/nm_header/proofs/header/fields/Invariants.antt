use Rattle.std.proofs.Common.{◌≡◌, ◌++◌, length}
use Rattle.nm_header.specs.Fields.{fields_in, without_from_line}
use Rattle.nm_header.specs.HeaderLines.{LeavesOf, header_lines}
use Rattle.nm_header.proofs.header.fields.Given as goal

-- so far, and what is left, is all
abbrev pub invariant-lines : goal.invariant-lines
invariant-lines l = record {
  fields : l.list ++ fields_in (header_lines l.left) ≡ fields_in (without_from_line (header_lines l.bytes));
  leaves : LeavesOf l.bytes l.left;
}

abbrev pub decreases-lines : goal.decreases-lines
decreases-lines l = length l.left
