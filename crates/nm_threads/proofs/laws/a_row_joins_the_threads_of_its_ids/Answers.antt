use Rattle.std.proofs.Common.{inl, inr}
use Rattle.nm_threads.proofs.SameLemmas.{Same_row, Same_more, Same_joined}
use Rattle.nm_threads.proofs.laws.a_row_joins_the_threads_of_its_ids.Goals as goal

pub returns : goal.returns
returns c = λ rows row a b. (Same_row rows row a b, λ either. elim either [ inl before ↦ Same_more rows row a b before | inr joined ↦ Same_joined rows row a b joined.0 joined.1 ])
