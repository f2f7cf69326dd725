use Rattle.std.proofs.Common.{true, false, sym, ◌∙◌, append-nil}
use Rattle.nm_segment.specs.Docs.{numbers}
use Rattle.nm_tiers.proofs.LivingLemmas.{living-more}
use Rattle.nm_tiers.proofs.tier.push_living.Goals as goal
use Rattle.nm_tiers.proofs.tier.push_living.Goals.{then-test+in_ok-push, else-test}

pub docs-preserved : goal.docs-preserved
docs-preserved g c =
    elim c.if-test.branch [
      | then-test+in_ok-push w ↦
          living-more (g.C.Condition.holds c.args.living.now) (numbers c.args.segment.now) c.args.live.now c.docs.live c.if-test.live c.docs.at c.in-Some.doc true (sym c.doc_at.ensures ∙ c.in-Some.is) (sym c.test.ensures ∙ w.if-test.true)
          c.docs.invariant (w.live-is ∙ w.in_ok-push.ensures.ok)
      | else-test w ↦
          living-more (g.C.Condition.holds c.args.living.now) (numbers c.args.segment.now) c.args.live.now c.docs.live c.if-test.live c.docs.at c.in-Some.doc false (sym c.doc_at.ensures ∙ c.in-Some.is) (sym c.test.ensures ∙ w.if-test.false)
          c.docs.invariant (w.live-is ∙ sym (append-nil c.docs.live))
    ]
