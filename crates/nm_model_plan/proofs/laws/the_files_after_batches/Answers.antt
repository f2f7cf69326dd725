use Rattle.std.proofs.Common.{◌∙◌}
use Rattle.nm_model_plan.specs.Plan.{batch_commits}
use Rattle.nm_model_plan.proofs.FoldLemmas.{batch-files}
use Rattle.nm_model_plan.proofs.laws.the_files_after_batches.Goals as goal

pub returns : goal.returns
returns c = λ index batches. c.files_follow_their_commits.ensures index (batch_commits index batches) ∙ batch-files c.files_follow_their_commits.ensures index batches
