use Rattle.nm_phrase.proofs.FoundLemmas.{word_found}
use Rattle.nm_phrase.proofs.laws.a_word_is_found_where_it_hits.Goals as goal

pub returns : goal.returns
returns c = λ docs field word list sorted rising same.
    word_found c.set_laws.ensures.membership c.set_laws.ensures.order docs field (λ other hit. c.hits_are_where_the_word_stands.ensures docs other field hit sorted) sorted word list rising same
