use Rattle.nm_dump.proofs.IdLemmas.{id_read}
use Rattle.nm_dump.proofs.laws.a_written_id_is_read_back.Goals as goal

pub returns : goal.returns
returns c = id_read
