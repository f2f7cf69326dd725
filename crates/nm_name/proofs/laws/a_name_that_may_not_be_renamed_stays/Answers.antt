use Rattle.nm_name.proofs.LawLemmas.{a_name_that_may_not_be_renamed_stays}
use Rattle.nm_name.proofs.laws.a_name_that_may_not_be_renamed_stays.Goals as goal

pub returns : goal.returns
returns c = a_name_that_may_not_be_renamed_stays
