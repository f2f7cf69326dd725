use Rattle.std.proofs.Common.{◌≡◌, ℕ, ◌+◌, ◌<◌, ◌≤◌, List, ◌++◌, length}
use Rattle.nm_header.specs.Comments.{comment_len}
use Rattle.nm_text.specs.QuotedStrings.{pairs_of}
use Rattle.nm_header.proofs.DepthLemmas.{depth_through}
use Rattle.nm_header.proofs.comments.comment_len.Given as goal

-- so far, and what is left, is all
abbrev pub invariant-pairs : goal.invariant-pairs
invariant-pairs l = record {
  sum : comment_len l.text + length l.left ≡ depth_through l.depth (pairs_of l.left) + length l.text;
  within : length l.left ≤ length l.text;
  low : 0 < l.depth;
  high : l.depth + length l.left ≤ length l.text + 1;
  front : (xs : List ℕ) × (l.text ≡ xs ++ l.left);
}

abbrev pub decreases-pairs : goal.decreases-pairs
decreases-pairs l = length l.left
