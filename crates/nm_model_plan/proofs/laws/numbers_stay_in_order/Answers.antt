use Rattle.nm_model_plan.proofs.NumberLemmas.{numbers-kept}
use Rattle.nm_model_plan.proofs.laws.numbers_stay_in_order.Goals as goal

pub returns-clause-empty : goal.returns-clause-empty
returns-clause-empty c = tt

pub returns-clause-kept : goal.returns-clause-kept
returns-clause-kept c = numbers-kept
