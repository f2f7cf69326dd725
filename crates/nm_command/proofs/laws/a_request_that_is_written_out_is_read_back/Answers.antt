use Rattle.nm_command.specs.RequestWords.{request_words}
use Rattle.nm_command.proofs.AnswerLemmas.{read-request, request-read}
use Rattle.nm_command.proofs.RangeLemmas.{request-fits}
use Rattle.nm_command.proofs.RequestWordLemmas.{request_words-back}
use Rattle.nm_command.proofs.laws.a_request_that_is_written_out_is_read_back.Goals as goal

pub returns-clause-back : goal.returns-clause-back
returns-clause-back c = λ request h. request-read (request_words request) request (request_words-back request h)

pub returns-clause-only : goal.returns-clause-only
returns-clause-only c = λ words request h. request-fits words request (read-request words request h)
