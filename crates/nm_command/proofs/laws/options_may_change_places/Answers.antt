use Rattle.nm_command.proofs.RepeatLemmas.{options-swap, request-swap}
use Rattle.nm_command.proofs.laws.options_may_change_places.Goals as goal

pub returns-clause-options : goal.returns-clause-options
returns-clause-options c = options-swap

pub returns-clause-request : goal.returns-clause-request
returns-clause-request c = request-swap
