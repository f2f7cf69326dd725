use Rattle.nm_replay.proofs.LawLemmas.{not-bad}
use Rattle.nm_replay.proofs.laws.what_holds_an_index_is_not_bad.Goals as goal

pub returns : goal.returns
returns c = not-bad c.records_are_read_in_one_way.ensures c.records_are_not_broken.ensures
