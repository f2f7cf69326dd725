use Rattle.nm_history.proofs.LineLemmas.{begun-append}
use Rattle.nm_history.proofs.LaneReadLemmas.{answers-kept, given-kept, lane_reads-kept}
use Rattle.nm_history.specs.Lines.{begun}
use Rattle.nm_history.proofs.other_lane_laws.later_steps_keep_the_answers.Goals as goal
use Rattle.std.proofs.Common.{◌++◌}

pub returns-clause-first : goal.returns-clause-first
returns-clause-first c = λ opening moment steps taken. answers-kept opening moment steps (steps ++ taken) (begun taken) (begun-append steps taken)

pub returns-clause-others : goal.returns-clause-others
returns-clause-others c = λ opening moment steps taken. lane_reads-kept opening moment steps (steps ++ taken) (begun taken) (begun-append steps taken)

pub returns-clause-given : goal.returns-clause-given
returns-clause-given c = λ opening moment steps taken. given-kept opening moment steps (steps ++ taken) (begun taken) (begun-append steps taken)
