use Rattle.nm_name.proofs.StemLemmas.{elsewhere}
use Rattle.nm_name.proofs.laws.a_file_elsewhere_stays.Goals as goal

pub returns : goal.returns
returns c = elsewhere
