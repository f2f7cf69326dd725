use Rattle.std.proofs.Common.{◌∙◌}
use Rattle.nm_tiers.proofs.LivingLemmas.{merged-is}
use Rattle.nm_tiers.proofs.tier.merged.Goals as goal

pub returns-clause-docs : goal.returns-clause-docs
returns-clause-docs g c =
    c.in_ok-new.ensures
    ∙ merged-is (g.C.Condition.holds c.args.living.now) c.args.front.now.segment c.args.back.now.segment c.get.result.now c.get-2.result.now c.get-3.result.now c.get-4.result.now c.in_ok-segment.segment
    c.new-live.result c.push_living.new.live c.push_living-2.new.live c.as_slice.result.now c.new-live.ensures c.in_ok-push_living.ensures c.in_ok-push_living-2.ensures c.as_slice.ensures
    c.get.ensures c.get-2.ensures c.get-3.ensures c.get-4.ensures c.in_ok-segment.ensures
