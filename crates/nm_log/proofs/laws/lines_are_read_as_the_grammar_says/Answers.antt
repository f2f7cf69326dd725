use Rattle.nm_log.proofs.GrammarLemmas.{asks-line, faulty-line, line-asks, line-faulty}
use Rattle.nm_log.proofs.laws.lines_are_read_as_the_grammar_says.Goals as goal

pub returns-clause-request : goal.returns-clause-request
returns-clause-request c = λ line request.
    let requests_are = c.words_are_read_as_the_grammar_says.ensures.request in
    let refusals_are = c.words_are_read_as_the_grammar_says.ensures.refusal in
    let one = c.words_have_one_answer.ensures.one in
    (asks-line requests_are refusals_are one line request, line-asks requests_are refusals_are one line request)

pub returns-clause-refusal : goal.returns-clause-refusal
returns-clause-refusal c = λ line word kind.
    let requests_are = c.words_are_read_as_the_grammar_says.ensures.request in
    let refusals_are = c.words_are_read_as_the_grammar_says.ensures.refusal in
    let one = c.words_have_one_answer.ensures.one in
    (faulty-line requests_are refusals_are one line word kind, line-faulty requests_are refusals_are one line word kind)
