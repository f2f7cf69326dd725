use Rattle.std.proofs.Common.{sym, subst, ◌∙◌, arith}
use Rattle.std.proofs.lemmas.List.{take_all}
use Rattle.nm_segment.specs.Docs.{AreDocs}
use Rattle.nm_build.proofs.docs_part.DocsPart.new.Goals as goal

pub invariant_of-result : goal.invariant_of-result
invariant_of-result c = subst AreDocs (sym (c.docs.invariant ∙ take_all c.docs.doc-index c.args.docs.now (omega (arith, c.docs-test.false)))) c.requires
