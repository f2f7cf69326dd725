use Rattle.nm_query.proofs.FaultLemmas.{close-told, empty-told, first-told, last-told, negation-told, open-told}
use Rattle.nm_query.proofs.token_laws.a_fault_of_structure_is_told_at_its_place.Goals as goal

pub returns-clause-open : goal.returns-clause-open
returns-clause-open c = open-told

pub returns-clause-close : goal.returns-clause-close
returns-clause-close c = close-told

pub returns-clause-empty : goal.returns-clause-empty
returns-clause-empty c = λ at end first second query other is too. empty-told at first second query other is too end

pub returns-clause-last : goal.returns-clause-last
returns-clause-last c = last-told

pub returns-clause-first : goal.returns-clause-first
returns-clause-first c = first-told

pub returns-clause-negation : goal.returns-clause-negation
returns-clause-negation c = negation-told
