use Rattle.nm_tiers.proofs.SizeLemmas.{settled-few}
use Rattle.nm_tiers.proofs.laws.settled_tiers_are_few.Goals as goal

pub returns : goal.returns
returns c = settled-few
