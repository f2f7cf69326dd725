use Rattle.nm_command.proofs.LeadingOptionLemmas.{leading-back, options-told}
use Rattle.nm_command.proofs.laws.leading_options_are_read_as_written.Goals as goal

pub returns-clause-told : goal.returns-clause-told
returns-clause-told c = options-told

pub returns-clause-back : goal.returns-clause-back
returns-clause-back c = leading-back
