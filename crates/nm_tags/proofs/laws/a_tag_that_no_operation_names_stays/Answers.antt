use Rattle.nm_tags.proofs.TagLemmas.{unnamed_stays}
use Rattle.nm_tags.proofs.laws.a_tag_that_no_operation_names_stays.Goals as goal

pub returns : goal.returns
returns c = unnamed_stays
