use Rattle.std.proofs.Common.{◌≡◌, ◌++◌, take, true}
use Rattle.nm_segment.specs.Merge.{living}
use Rattle.nm_segment.proofs.part.Part.new.Given as goal

-- the documents so far that live were added; where the part is whole as yet, these are all
abbrev pub invariant-docs : goal.invariant-docs
invariant-docs l = record {
  added : l.docs ≡ l.initial.docs ++ living l.live (take l.doc-index l.segment);
  whole : l.is_whole ≡ true → living l.live (take l.doc-index l.segment) ≡ take l.doc-index l.segment;
}
