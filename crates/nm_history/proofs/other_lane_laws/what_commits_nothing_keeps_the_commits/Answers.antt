use Rattle.std.proofs.Common.{◌++◌}
use Rattle.nm_history.proofs.LaneReadLemmas.{appends-last, begun-last, commits-same, stands-same}
use Rattle.nm_history.proofs.other_lane_laws.what_commits_nothing_keeps_the_commits.Goals as goal

pub returns-clause-stands : goal.returns-clause-stands
returns-clause-stands c = λ opening entry steps taken lines acknowledged place nothing. stands-same steps (steps ++ taken) (begun-last steps taken nothing) opening entry lines acknowledged place

pub returns-clause-commits : goal.returns-clause-commits
returns-clause-commits c = λ opening moment tree steps taken lines acknowledged nothing. commits-same steps (steps ++ taken) (begun-last steps taken nothing) opening moment tree lines acknowledged

pub returns-clause-acknowledged : goal.returns-clause-acknowledged
returns-clause-acknowledged c = appends-last
