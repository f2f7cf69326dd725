use Rattle.nm_model_plan.proofs.MoveLemmas.{commits-fit}
use Rattle.nm_model_plan.proofs.tag_laws.tag_commits_fit.Goals as goal

pub returns : goal.returns
returns c = commits-fit c.files_follow_their_commits.ensures
