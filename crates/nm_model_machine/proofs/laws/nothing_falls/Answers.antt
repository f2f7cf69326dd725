use Rattle.nm_model_machine.proofs.OrderLemmas.{nothing_falls_along}
use Rattle.nm_model_machine.proofs.laws.nothing_falls.Goals as goal

pub returns : goal.returns
returns c = nothing_falls_along
