use Rattle.nm_name.proofs.OwnLemmas.{renamed_again, stays_own}
use Rattle.nm_name.proofs.laws.a_path_that_carries_its_flags_stays.Goals as goal

pub returns-clause-again : goal.returns-clause-again
returns-clause-again c = renamed_again

pub returns-clause-own : goal.returns-clause-own
returns-clause-own c = stays_own
