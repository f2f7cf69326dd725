use Rattle.nm_flags.specs.FlagTags.{name_ops}
use Rattle.nm_flags.proofs.laws.only_the_five_tags_follow_the_names.Goals as goal

pub returns : goal.returns
returns c = λ tags paths tag sorted other. c.a_tag_that_no_operation_names_stays.ensures tags (name_ops paths) tag sorted other
