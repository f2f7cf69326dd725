use Rattle.nm_replay.proofs.ReplayLemmas.{commits-more}
use Rattle.nm_replay.proofs.laws.one_commit_more_is_held.Goals as goal

pub returns : goal.returns
returns c = commits-more
