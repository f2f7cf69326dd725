use Rattle.nm_replay.proofs.LawLemmas.{held-once}
use Rattle.nm_replay.proofs.laws.an_index_is_held_once.Goals as goal

pub returns : goal.returns
returns c = held-once c.records_are_read_in_one_way.ensures
