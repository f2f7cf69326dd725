use Rattle.nm_mime.proofs.RoundLemmas.{written_again}
use Rattle.nm_mime.proofs.laws.written_parts_are_read.Goals as goal

pub returns : goal.returns
returns c = λ boundary parts one k. written_again boundary one parts k
