use Rattle.nm_model_plan.proofs.TagCommitLemmas.{tags-files, tags-fit, wanted-lines, wanted-live}
use Rattle.nm_model_plan.proofs.tag_laws.the_commit_of_tags_leaves_what_is_wanted.Goals as goal

pub returns-clause-fits : goal.returns-clause-fits
returns-clause-fits c = tags-fit

pub returns-clause-files : goal.returns-clause-files
returns-clause-files c = tags-files c.files_follow_their_commits.ensures

pub returns-clause-live : goal.returns-clause-live
returns-clause-live c = wanted-live c.tags_of_others_stay.ensures

pub returns-clause-lines : goal.returns-clause-lines
returns-clause-lines c = wanted-lines c.tags_of_others_stay.ensures
