use Rattle.nm_model_plan.proofs.KeptLemmas.{removed-stay}
use Rattle.nm_model_plan.proofs.TagLemmas.{batch-tags, tags-followed, tags-stay}
use Rattle.nm_model_plan.proofs.laws.tags_follow_the_names.Goals as goal

pub returns-clause-followed : goal.returns-clause-followed
returns-clause-followed c = tags-followed c.tags_of_others_stay.ensures

pub returns-clause-others : goal.returns-clause-others
returns-clause-others c = tags-stay c.tags_of_others_stay.ensures

pub returns-clause-added : goal.returns-clause-added
returns-clause-added c = batch-tags c.tags_of_others_stay.ensures

pub returns-clause-removed : goal.returns-clause-removed
returns-clause-removed c = removed-stay c.tags_of_others_stay.ensures c.files_follow_their_changes.ensures c.files_follow_their_commits.ensures
