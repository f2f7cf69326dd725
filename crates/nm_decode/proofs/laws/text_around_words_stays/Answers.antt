use Rattle.nm_decode.proofs.AroundLaw.{text-before, text-between}
use Rattle.nm_decode.proofs.laws.text_around_words_stays.Goals as goal

pub returns-clause-before : goal.returns-clause-before
returns-clause-before c = text-before

pub returns-clause-between : goal.returns-clause-between
returns-clause-between c = text-between
