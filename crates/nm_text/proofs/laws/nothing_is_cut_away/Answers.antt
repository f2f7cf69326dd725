use Rattle.nm_text.proofs.CutLemmas.{concat-cut}
use Rattle.nm_text.proofs.LineLemmas.{concat-lines}
use Rattle.nm_text.proofs.laws.nothing_is_cut_away.Goals as goal

pub returns-clause-lines : goal.returns-clause-lines
returns-clause-lines c = λ bytes. concat-lines bytes

pub returns-clause-lexemes : goal.returns-clause-lexemes
returns-clause-lexemes c = λ more bytes. concat-cut more bytes
