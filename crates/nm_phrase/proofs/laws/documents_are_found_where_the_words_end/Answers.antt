use Rattle.nm_phrase.proofs.FoundLemmas.{found_where_ended}
use Rattle.nm_phrase.proofs.laws.documents_are_found_where_the_words_end.Goals as goal

pub returns : goal.returns
returns c = λ docs field starts words doc sorted some. found_where_ended field starts words docs doc sorted some
