use Rattle.nm_model_answer.proofs.TreeLemmas.{passes-And, passes-Not, passes-Or, passes-Xor}
use Rattle.nm_model_answer.proofs.laws.a_tree_passes_as_its_queries_do.Goals as goal

pub returns-clause-negation : goal.returns-clause-negation
returns-clause-negation c = passes-Not

pub returns-clause-all : goal.returns-clause-all
returns-clause-all c = passes-And

pub returns-clause-one : goal.returns-clause-one
returns-clause-one c = passes-Or

pub returns-clause-odd : goal.returns-clause-odd
returns-clause-odd c = passes-Xor
