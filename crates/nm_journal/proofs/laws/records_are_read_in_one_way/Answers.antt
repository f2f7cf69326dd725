use Rattle.nm_journal.proofs.UniqueLemmas.{one_reading}
use Rattle.nm_journal.proofs.laws.records_are_read_in_one_way.Goals as goal

pub returns : goal.returns
returns c = λ start one other bytes a b. one_reading start one other bytes a b
