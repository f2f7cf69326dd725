use Rattle.std.proofs.Common.{◌≡◌, take}
use Rattle.nm_build.proofs.docs_part.DocsPart.new.Given as goal

abbrev pub invariant-docs : goal.invariant-docs
invariant-docs l = l.copies ≡ take l.doc-index l.docs
