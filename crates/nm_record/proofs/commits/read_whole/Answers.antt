use Rattle.std.proofs.Common.{ap, subst, ◌∙◌, arith}
use Rattle.nm_codec.specs.AllLaws.{all_again}
use Rattle.nm_codec.specs.ReadSteps.{AnswersUnlessNoMemory, Place, all_of}
use Rattle.nm_record.specs.CommitGrammar.{commit_grammar}
use Rattle.nm_record.proofs.FoundLemmas.{is_found}
use Rattle.nm_record.proofs.commits.read_whole.Goals as goal

pub returns-clause-exact : goal.returns-clause-exact
returns-clause-exact c = subst (λ (p : Place). AnswersUnlessNoMemory p.rest c.read_to_end.result (all_of commit_grammar.read p.rest)) c.requires.front c.read_to_end.ensures

pub returns-clause-found : goal.returns-clause-found
returns-clause-found c = is_found c.args.bytes.now c.read_to_end.result (λ i. omega (arith, c.type_inv.bytes i)) (returns-clause-exact c)

pub returns-clause-only : goal.returns-clause-only
returns-clause-only c = λ commit v short e.
    subst (λ r. AnswersUnlessNoMemory c.args.bytes.now c.read_to_end.result r) (ap (all_of commit_grammar.read) e ∙ all_again commit_grammar commit v short) (returns-clause-exact c)
