use Rattle.nm_model_machine.proofs.OrderLemmas.{met_is_seen}
use Rattle.nm_model_machine.proofs.laws.what_was_met_is_seen.Goals as goal

pub returns : goal.returns
returns c = met_is_seen
