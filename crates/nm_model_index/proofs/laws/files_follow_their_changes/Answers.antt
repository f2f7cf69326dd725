use Rattle.nm_model_index.proofs.IndexLemmas.{change_files}
use Rattle.nm_model_index.proofs.laws.files_follow_their_changes.Goals as goal

pub returns : goal.returns
returns c = change_files
