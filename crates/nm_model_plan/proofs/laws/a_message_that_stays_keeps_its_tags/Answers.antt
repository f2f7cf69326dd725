use Rattle.nm_model_plan.proofs.KeptLemmas.{tag-kept}
use Rattle.nm_model_plan.proofs.laws.a_message_that_stays_keeps_its_tags.Goals as goal

pub returns : goal.returns
returns c =
    tag-kept c.tags_of_others_stay.ensures c.files_follow_their_changes.ensures c.files_follow_their_commits.ensures c.tags_stay_in_order.ensures c.only_the_five_tags_follow_the_names.ensures
