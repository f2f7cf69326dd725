use Rattle.nm_command.proofs.DefaultLemmas.{first-default}
use Rattle.nm_command.proofs.laws.the_first_value_is_the_default.Goals as goal

pub returns : goal.returns
returns c = first-default
