use Rattle.nm_model_answer.proofs.TreeLemmas.{names-And, names-Not, names-Or, names-Tag, names-Xor}
use Rattle.nm_model_answer.proofs.laws.a_tree_names_the_tags_of_its_queries.Goals as goal

pub returns-clause-term : goal.returns-clause-term
returns-clause-term c = names-Tag

pub returns-clause-negation : goal.returns-clause-negation
returns-clause-negation c = names-Not

pub returns-clause-all : goal.returns-clause-all
returns-clause-all c = names-And

pub returns-clause-one : goal.returns-clause-one
returns-clause-one c = names-Or

pub returns-clause-odd : goal.returns-clause-odd
returns-clause-odd c = names-Xor
