use Rattle.std.proofs.Common.{ℕ, List, ap, ◌∙◌}
use Rattle.nm_segment.specs.Merge.{lives}
use Rattle.nm_segment.proofs.LiveLemmas.{lives-put}
use Rattle.nm_segment.proofs.live_docs.LiveDocs.new.Goals as goal

pub docs-preserved : goal.docs-preserved
docs-preserved c = λ doc.
    ap (λ (set : List ℕ). lives set doc) c.in_ok-insert.ensures.keys ∙ lives-put c.docs.numbers.keys c.args.docs.now c.docs.doc-index _ c.docs-test.true c.docs.invariant doc
