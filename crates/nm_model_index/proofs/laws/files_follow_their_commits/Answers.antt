use Rattle.nm_model_index.proofs.IndexLemmas.{commits_files}
use Rattle.nm_model_index.proofs.laws.files_follow_their_commits.Goals as goal

pub returns : goal.returns
returns c = commits_files
