use Rattle.nm_model_plan.proofs.ApartLemmas.{commits-apart}
use Rattle.nm_model_plan.proofs.laws.files_stay_apart.Goals as goal

pub returns-clause-empty : goal.returns-clause-empty
returns-clause-empty c = tt

pub returns-clause-kept : goal.returns-clause-kept
returns-clause-kept c = commits-apart c.files_follow_their_commits.ensures
