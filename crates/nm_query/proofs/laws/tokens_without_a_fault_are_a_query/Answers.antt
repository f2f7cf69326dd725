use Rattle.nm_query.proofs.DescentLemmas.{query_of-structure}
use Rattle.nm_query.proofs.GrammarLemmas.{tree_of-query}
use Rattle.nm_query.proofs.StructureLemmas.{structure_fault-query}
use Rattle.nm_query.proofs.laws.tokens_without_a_fault_are_a_query.Goals as goal

pub returns-clause-tree : goal.returns-clause-tree
returns-clause-tree c = tree_of-query

pub returns-clause-fault : goal.returns-clause-fault
returns-clause-fault c = structure_fault-query

pub returns-clause-read : goal.returns-clause-read
returns-clause-read c = query_of-structure
