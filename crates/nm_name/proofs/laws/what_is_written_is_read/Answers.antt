use Rattle.nm_name.proofs.LawLemmas.{what_is_written_is_read}
use Rattle.nm_name.proofs.OwnLemmas.{path_read}
use Rattle.nm_name.proofs.laws.what_is_written_is_read.Goals as goal

pub returns-clause-name : goal.returns-clause-name
returns-clause-name c = what_is_written_is_read

pub returns-clause-path : goal.returns-clause-path
returns-clause-path c = path_read
