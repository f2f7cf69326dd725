use Rattle.nm_log.proofs.GrammarLemmas.{single-asks}
use Rattle.nm_log.proofs.laws.single_commands_are_read_as_the_grammar_says.Goals as goal

pub returns : goal.returns
returns c = λ words request is.
    single-asks c.words_are_read_as_the_grammar_says.ensures.request c.words_are_read_as_the_grammar_says.ensures.refusal c.words_have_one_answer.ensures.one words request is
