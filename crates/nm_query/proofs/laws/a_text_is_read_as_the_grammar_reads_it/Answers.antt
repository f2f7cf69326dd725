use Rattle.nm_query.proofs.AnswerLemmas.{answer-read, read-answer}
use Rattle.nm_query.proofs.laws.a_text_is_read_as_the_grammar_reads_it.Goals as goal

pub returns : goal.returns
returns c = λ text query. (read-answer text query, answer-read text query)
