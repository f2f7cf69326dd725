use Rattle.std.proofs.Common.{sym, ◌∙◌}
use Rattle.nm_command.proofs.AnswerLemmas.{one-or-other, refused-read, request-read}
use Rattle.nm_command.proofs.laws.words_have_one_answer.Goals as goal

pub returns-clause-one : goal.returns-clause-one
returns-clause-one c = one-or-other

pub returns-clause-request : goal.returns-clause-request
returns-clause-request c = λ words first second one other.
    let same = sym (request-read words first one) ∙ request-read words second other in cc

pub returns-clause-refusal : goal.returns-clause-refusal
returns-clause-refusal c = λ words word other kind another one two.
    let same = sym (refused-read words word kind one) ∙ refused-read words other another two in (cc, cc)

pub returns-clause-never_both : goal.returns-clause-never_both
returns-clause-never_both c = λ words request word kind is refused.
    let same = sym (request-read words request is) ∙ refused-read words word kind refused in absurd (cc)
