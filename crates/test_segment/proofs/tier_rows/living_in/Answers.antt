use Rattle.std.proofs.Common.{true, false, sym, ◌∙◌, arith}
use Rattle.test_segment.proofs.TierLemmas.{count-more}
use Rattle.test_segment.proofs.tier_rows.living_in.Goals as goal
use Rattle.test_segment.proofs.tier_rows.living_in.Goals.{else-test, then-test}

pub docs-preserved : goal.docs-preserved
docs-preserved g c =
    let holds = g.C.Condition.holds c.args.living.now in
    elim c.if-test.branch [
      | then-test w ↦ (
        count-more holds c.args.segment.now c.docs.at c.in-Some.doc c.docs.count c.if-test.count true (sym c.doc_at.ensures ∙ c.in-Some.is) (sym c.test.ensures ∙ w.if-test.true) c.docs.invariant.0 w.count-is,
        omega (arith, c.docs.invariant.1, w.count-is),
        c.docs.invariant.2,
      )
      | else-test w ↦ (
        count-more holds c.args.segment.now c.docs.at c.in-Some.doc c.docs.count c.if-test.count false (sym c.doc_at.ensures ∙ c.in-Some.is) (sym c.test.ensures ∙ w.if-test.false) c.docs.invariant.0 w.count-is,
        omega (arith, c.docs.invariant.1, w.count-is),
        c.docs.invariant.2,
      )
    ]
