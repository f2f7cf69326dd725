use Rattle.std.proofs.Common.{◌++◌, []}
use Rattle.nm_history.proofs.LaneReadLemmas.{answers-kept, begun-between, given-kept, none-more}
use Rattle.nm_history.proofs.other_lane_laws.what_stands_between_keeps_the_answers.Goals as goal

pub returns-clause-first : goal.returns-clause-first
returns-clause-first c = λ opening moment front back taken before lines nothing.
    answers-kept opening moment (front ++ back) (front ++ (taken ++ back)) [] (none-more (front ++ back) (front ++ (taken ++ back)) (begun-between front back taken nothing)) before lines

pub returns-clause-given : goal.returns-clause-given
returns-clause-given c = λ opening moment front back taken before lines old new nothing.
    given-kept opening moment (front ++ back) (front ++ (taken ++ back)) [] (none-more (front ++ back) (front ++ (taken ++ back)) (begun-between front back taken nothing)) before lines old new
