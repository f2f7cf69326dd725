use Rattle.nm_model_machine.proofs.OrderLemmas.{reopened_is_seen}
use Rattle.nm_model_machine.proofs.laws.what_was_reopened_is_seen.Goals as goal

pub returns : goal.returns
returns c = reopened_is_seen
