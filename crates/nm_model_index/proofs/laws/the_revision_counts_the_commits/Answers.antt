use Rattle.nm_model_index.proofs.IndexLemmas.{revision_after}
use Rattle.nm_model_index.proofs.laws.the_revision_counts_the_commits.Goals as goal

pub returns : goal.returns
returns c = revision_after
