use Rattle.std.proofs.Common.{◌≡◌, ◌++◌, take}
use Rattle.nm_segment.proofs.part.Part.whole.Given as goal

-- the documents so far were added
abbrev pub invariant-docs : goal.invariant-docs
invariant-docs l = l.docs ≡ l.initial.docs ++ take l.doc-index l.segment
