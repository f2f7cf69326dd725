use Rattle.nm_maildir.proofs.ShiftLemmas.{first_taken}
use Rattle.nm_maildir.proofs.shift_tree.ShiftTree.new.Goals as goal

pub returns-clause-trees : goal.returns-clause-trees
returns-clause-trees c = first_taken _ _ _ _ c.in-Some.tree c.into_vec-later.ensures c.reverse.ensures.items c.in-Some.ensures.items
