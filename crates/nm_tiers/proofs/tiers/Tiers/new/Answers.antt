use Rattle.std.proofs.Common.{List, sym, subst}
use Rattle.nm_tiers.specs.Tiers.{docs_of}
use Rattle.nm_tiers.specs.declared.tier.Tier.{Tier}
use Rattle.nm_tiers.proofs.TierLemmas.{Rising, rising-none}
use Rattle.nm_tiers.proofs.tiers.Tiers.new.Goals as goal

pub invariant_of-result : goal.invariant_of-result
invariant_of-result c = subst (λ (list : List Tier). Rising (docs_of list)) (sym c.new.ensures.items) rising-none
