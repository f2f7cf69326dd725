use Rattle.nm_tags.proofs.TagLemmas.{last_decides}
use Rattle.nm_tags.proofs.laws.the_last_operation_on_a_tag_decides.Goals as goal

pub returns : goal.returns
returns c = last_decides
