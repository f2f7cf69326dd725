use Rattle.nm_model_plan.proofs.FitLemmas.{left-listed}
use Rattle.nm_model_plan.proofs.laws.new_leaves_what_is_listed.Goals as goal

pub returns : goal.returns
returns c = left-listed c.files_follow_their_commits.ensures
