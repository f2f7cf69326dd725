use Rattle.nm_threads.proofs.SameLemmas.{Same_turned, Same_through, Same_beside}
use Rattle.nm_threads.proofs.laws.same_is_an_equivalence.Goals as goal

pub returns-clause-turned : goal.returns-clause-turned
returns-clause-turned c = Same_turned

pub returns-clause-through : goal.returns-clause-through
returns-clause-through c = Same_through

pub returns-clause-beside : goal.returns-clause-beside
returns-clause-beside c = Same_beside
