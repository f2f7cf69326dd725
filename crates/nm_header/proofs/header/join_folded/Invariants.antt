use Rattle.std.proofs.Common.{◌≡◌, ◌++◌, length}
use Rattle.nm_header.specs.Fields.{fields_in, folded_of}
use Rattle.nm_header.specs.HeaderLines.{LeavesOf, header_lines}
use Rattle.nm_header.proofs.header.join_folded.Given as goal

-- so far, and what is left, is all
abbrev pub invariant-folded : goal.invariant-folded
invariant-folded l = record {
  joined : l.joined ++ folded_of (header_lines l.left) ≡ l.fn.joined ++ folded_of (header_lines l.bytes);
  fields : fields_in (header_lines l.left) ≡ fields_in (header_lines l.bytes);
  leaves : LeavesOf l.bytes l.left;
}

abbrev pub decreases-folded : goal.decreases-folded
decreases-folded l = length l.left
