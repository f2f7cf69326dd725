use Rattle.nm_model_plan.proofs.TagCommitLemmas.{line-found, line-live, line-others, lines-kept, lines-rest}
use Rattle.nm_model_plan.proofs.tag_laws.a_line_tags_what_it_finds.Goals as goal

pub returns-clause-found : goal.returns-clause-found
returns-clause-found c = line-found c.tags_of_others_stay.ensures

pub returns-clause-others : goal.returns-clause-others
returns-clause-others c = line-others c.tags_of_others_stay.ensures

pub returns-clause-kept : goal.returns-clause-kept
returns-clause-kept c = lines-kept c.tags_of_others_stay.ensures

pub returns-clause-live : goal.returns-clause-live
returns-clause-live c = line-live

pub returns-clause-rest : goal.returns-clause-rest
returns-clause-rest c = lines-rest
