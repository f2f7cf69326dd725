use Rattle.nm_replay.proofs.LawLemmas.{passed-once}
use Rattle.nm_replay.proofs.laws.one_limit_is_passed.Goals as goal

pub returns : goal.returns
returns c = passed-once c.records_are_read_in_one_way.ensures
