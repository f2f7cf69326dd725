use Rattle.nm_eval.proofs.NumberLemmas.{none_of_none, values_live}
use Rattle.nm_eval.proofs.laws.the_live_ones_stand_at_their_numbers.Goals as goal

pub returns-clause-none : goal.returns-clause-none
returns-clause-none c = none_of_none

pub returns-clause-live : goal.returns-clause-live
returns-clause-live c = values_live
