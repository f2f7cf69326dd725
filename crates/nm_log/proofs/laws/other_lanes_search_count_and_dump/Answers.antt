use Rattle.nm_log.proofs.GrammarLemmas.{every-line}
use Rattle.nm_log.proofs.laws.other_lanes_search_count_and_dump.Goals as goal

pub returns : goal.returns
returns c = every-line c.words_are_read_as_the_grammar_says.ensures.request
