use Rattle.nm_model_machine.proofs.OrderLemmas.{shown_alone}
use Rattle.nm_model_machine.proofs.laws.only_what_is_shown_is_seen.Goals as goal

pub returns : goal.returns
returns c = shown_alone
