use Rattle.nm_model_plan.proofs.FitLemmas.{fit-new}
use Rattle.nm_model_plan.proofs.laws.new_commits_fit.Goals as goal

pub returns : goal.returns
returns c = fit-new c.files_follow_their_commits.ensures
