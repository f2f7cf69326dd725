use Rattle.nm_name.proofs.StemLemmas.{from_new, mark_left, stays_in_cur, stays_in_new, within_cur}
use Rattle.nm_name.proofs.laws.a_renamed_file_keeps_its_stem.Goals as goal

pub returns-clause-new : goal.returns-clause-new
returns-clause-new c = from_new

pub returns-clause-cur : goal.returns-clause-cur
returns-clause-cur c = within_cur

pub returns-clause-none_left : goal.returns-clause-none_left
returns-clause-none_left c = mark_left

pub returns-clause-none_in_new : goal.returns-clause-none_in_new
returns-clause-none_in_new c = stays_in_new

pub returns-clause-none_in_cur : goal.returns-clause-none_in_cur
returns-clause-none_in_cur c = stays_in_cur
