use Rattle.nm_history.proofs.TreeLemmas.{moved-after, still-after}
use Rattle.nm_history.proofs.laws.the_tree_follows_renames.Goals as goal

pub returns-clause-moved : goal.returns-clause-moved
returns-clause-moved c = moved-after

pub returns-clause-still : goal.returns-clause-still
returns-clause-still c = still-after
