use Rattle.std.proofs.Common.{◌++◌}
use Rattle.nm_history.proofs.LaneReadLemmas.{appends-between, begun-between, commits-same, stands-same}
use Rattle.nm_history.proofs.other_lane_laws.what_stands_between_keeps_the_commits.Goals as goal

pub returns-clause-stands : goal.returns-clause-stands
returns-clause-stands c = λ opening entry front back taken lines acknowledged place nothing. stands-same (front ++ back) (front ++ (taken ++ back)) (begun-between front back taken nothing) opening entry lines acknowledged place

pub returns-clause-commits : goal.returns-clause-commits
returns-clause-commits c = λ opening moment tree front back taken lines acknowledged nothing. commits-same (front ++ back) (front ++ (taken ++ back)) (begun-between front back taken nothing) opening moment tree lines acknowledged

pub returns-clause-acknowledged : goal.returns-clause-acknowledged
returns-clause-acknowledged c = appends-between
