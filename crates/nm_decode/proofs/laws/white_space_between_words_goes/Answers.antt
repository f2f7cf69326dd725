use Rattle.nm_decode.proofs.GapLaw.{word-beside, words-joined}
use Rattle.nm_decode.proofs.laws.white_space_between_words_goes.Goals as goal

pub returns-clause-between : goal.returns-clause-between
returns-clause-between c = words-joined

pub returns-clause-beside_text : goal.returns-clause-beside_text
returns-clause-beside_text c = word-beside
