use Rattle.nm_journal.proofs.OtherLemmas.{nothing_new_twice}
use Rattle.nm_journal.proofs.laws.nothing_new_twice_is_nothing_new.Goals as goal

pub returns : goal.returns
returns c = nothing_new_twice
