use Rattle.nm_journal.proofs.UniqueLemmas.{not_broken}
use Rattle.nm_journal.proofs.laws.records_are_not_broken.Goals as goal

pub returns : goal.returns
returns c = λ start at bodies bytes has broken. not_broken start at bodies bytes has broken
