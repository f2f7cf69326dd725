use Rattle.nm_drill.proofs.GroupLemmas.{begins, first_is_least, no_reply, replies}
use Rattle.nm_drill.proofs.laws.the_others_of_a_group_answer_its_first.Goals as goal

pub returns-clause-first : goal.returns-clause-first
returns-clause-first c = first_is_least

pub returns-clause-alone : goal.returns-clause-alone
returns-clause-alone c = no_reply

pub returns-clause-others : goal.returns-clause-others
returns-clause-others c first k from some = (begins first k from some, replies first k from some)
