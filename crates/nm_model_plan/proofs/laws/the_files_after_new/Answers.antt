use Rattle.std.proofs.Common.{◌∙◌}
use Rattle.nm_model_plan.specs.Plan.{new_commits}
use Rattle.nm_model_plan.proofs.FoldLemmas.{new-files}
use Rattle.nm_model_plan.proofs.laws.the_files_after_new.Goals as goal

pub returns : goal.returns
returns c = λ index listed batches. c.files_follow_their_commits.ensures index (new_commits index listed batches) ∙ new-files c.files_follow_their_commits.ensures index listed batches
