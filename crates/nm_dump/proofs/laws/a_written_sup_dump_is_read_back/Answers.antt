use Rattle.nm_dump.proofs.SupWholeLemmas.{sup_dump_read}
use Rattle.nm_dump.proofs.laws.a_written_sup_dump_is_read_back.Goals as goal

pub returns : goal.returns
returns c = sup_dump_read
