use Rattle.std.proofs.Common.{◌≡◌, ℕ, ◌-◌, ◌≤◌, length, drop}
use Rattle.nm_text.specs.Lines.{lines_of}
use Rattle.nm_mime.specs.Children.{part_len, spans_of}
use Rattle.nm_mime.proofs.ChildLemmas.{size_so_far}
use Rattle.nm_mime.proofs.children.part_end.Given as goal

-- so far, and what is left, is all; the lines so far end no part
abbrev pub invariant-lines : goal.invariant-lines
invariant-lines l = record {
  size : size_so_far l.delimiters l.next l.len (lines_of (drop l.next l.bytes)) ≡ part_len l.delimiters (lines_of l.bytes);
  same : (end : ℕ) → spans_of l.delimiters end (drop l.next l.bytes) ≡ spans_of l.delimiters end l.bytes;
  short : l.len ≤ l.next;
  within : l.next ≤ length l.bytes;
}

abbrev pub decreases-lines : goal.decreases-lines
decreases-lines l = length l.bytes - l.next
