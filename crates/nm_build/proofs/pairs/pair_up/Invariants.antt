use Rattle.std.proofs.Common.{◌≡◌, ◌+◌, ◌*◌, ◌++◌, length}
use Rattle.nm_build.specs.Parts.{count_of, docs_of, joined}
use Rattle.nm_build.proofs.pairs.pair_up.Given as goal

-- the pairs so far, the one that waits and those that are left are all
abbrev pub invariant-segments : goal.invariant-segments
invariant-segments l = record {
  docs : joined l.pairs ++ (docs_of l.held ++ joined l.segment-iterator.rest.items) ≡ joined l.fn.segments;
  count : 2 * length l.pairs + (count_of l.held + length l.segment-iterator.rest.items) ≡ length l.fn.segments;
}
