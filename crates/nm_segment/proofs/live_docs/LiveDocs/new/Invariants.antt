use Rattle.std.proofs.Common.{◌≡◌, ℕ, take}
use Rattle.nm_segment.specs.Merge.{lives}
use Rattle.nm_segment.proofs.live_docs.LiveDocs.new.Given as goal

-- the set has the numbers so far
abbrev pub invariant-docs : goal.invariant-docs
invariant-docs l = (doc : ℕ) → lives l.numbers.keys doc ≡ lives (take l.doc-index l.docs) doc
