use Rattle.std.proofs.Common.{◌≡◌, ◌++◌, length}
use Rattle.nm_segment.specs.Docs.{AreDocs}
use Rattle.nm_build.specs.Parts.{joined}
use Rattle.nm_build.proofs.cut.cut_docs.Given as goal

-- the parts so far, with what is left, are all
abbrev pub invariant-parts : goal.invariant-parts
invariant-parts l = record {
  all : joined l.parts ++ l.rest ≡ l.docs;
  rest : AreDocs l.rest;
}

abbrev pub decreases-parts : goal.decreases-parts
decreases-parts l = length l.rest
