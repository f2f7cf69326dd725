use Rattle.nm_command.proofs.AnswerLemmas.{read-refused, read-request, refused-read, request-read}
use Rattle.nm_command.proofs.laws.words_are_read_as_the_grammar_says.Goals as goal

pub returns-clause-request : goal.returns-clause-request
returns-clause-request c = λ words request. (read-request words request, request-read words request)

pub returns-clause-refusal : goal.returns-clause-refusal
returns-clause-refusal c = λ words word kind. (read-refused words word kind, refused-read words word kind)
