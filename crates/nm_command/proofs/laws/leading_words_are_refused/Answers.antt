use Rattle.nm_command.proofs.LeadingOptionLemmas.{repeated-refused, word-refused}
use Rattle.nm_command.proofs.laws.leading_words_are_refused.Goals as goal

pub returns-clause-repeated : goal.returns-clause-repeated
returns-clause-repeated c = repeated-refused

pub returns-clause-out_of_form : goal.returns-clause-out_of_form
returns-clause-out_of_form c = word-refused
