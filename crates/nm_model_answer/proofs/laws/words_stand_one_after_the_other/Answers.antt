use Rattle.nm_model_answer.proofs.WordLemmas.{last_by_front, whole_words}
use Rattle.nm_model_answer.proofs.laws.words_stand_one_after_the_other.Goals as goal

pub returns-clause-whole : goal.returns-clause-whole
returns-clause-whole c = whole_words

pub returns-clause-front : goal.returns-clause-front
returns-clause-front c = last_by_front
