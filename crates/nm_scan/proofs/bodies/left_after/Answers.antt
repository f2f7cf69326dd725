use Rattle.std.proofs.Common.{◌-◌, ap, ◌∙◌}
use Rattle.nm_scan.proofs.BodyLemmas.{left-more}
use Rattle.nm_scan.proofs.bodies.left_after.Goals as goal

pub given-preserved : goal.given-preserved
given-preserved c =
    c.saturating_sub-rest.ensures ∙ (ap (λ len. c.given.rest - len) c.given_len.ensures
    ∙ left-more c.args.left c.given.rest c.args.given.now c.given.answer-index c.answer-item.result c.given-test.true c.answer-item.is c.given.invariant)
