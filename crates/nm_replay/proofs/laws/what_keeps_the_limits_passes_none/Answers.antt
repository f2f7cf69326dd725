use Rattle.nm_replay.proofs.LawLemmas.{kept-not-passed}
use Rattle.nm_replay.proofs.laws.what_keeps_the_limits_passes_none.Goals as goal

pub returns : goal.returns
returns c = kept-not-passed c.records_are_read_in_one_way.ensures
