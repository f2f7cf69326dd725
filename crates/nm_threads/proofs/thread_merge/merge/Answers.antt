use Rattle.std.proofs.Common.{ap, sym, ◌∙◌, ◌+◌, cond, length, nat_eq}
use Rattle.std.specs.Prelude.{Some, None}
use Rattle.nm_threads.specs.Maps.{at}
use Rattle.nm_threads.proofs.MemberLemmas.{number_test}
use Rattle.nm_threads.proofs.ThreadLemmas.{len_found}
use Rattle.nm_threads.proofs.thread_merge.merge.Goals as goal

pub returns-clause-threads : goal.returns-clause-threads
returns-clause-threads g c = λ group.
    c.in_ok-insert.ensures.found group
    ∙ ap (λ test. cond test (Some c.args.thread) (at group c.remove.new.self)) (number_test group c.args.to)
    ∙ ap (λ rest. cond (nat_eq group c.args.to) (Some c.args.thread) rest)
    (c.in_ok-remove.ensures.found group ∙ ap (λ test. cond test None (at group c.args.maps.now.threads)) (number_test group c.args.from))

pub returns-clause-steps : goal.returns-clause-steps
returns-clause-steps g c = λ one are is.
    c.in_ok-move_numbers.ensures.steps
    ∙ ap (λ all. c.args.steps.now + length all) c.as_slice.ensures
    ∙ ap (λ more. c.args.steps.now + more) (len_found c.args.maps.now are c.args.from one is c.in_ok-numbers.numbers c.in_ok-numbers.ensures.rising c.in_ok-numbers.ensures.all ∙ sym (are.counted c.args.from one is))
