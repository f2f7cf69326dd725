use Rattle.nm_header.proofs.FoldLemmas.{whole_body}
use Rattle.nm_header.proofs.laws.a_folded_body_is_read_whole.Goals as goal

pub returns : goal.returns
returns c = λ name front back e colon ends blank whole. whole_body name front back e colon ends blank whole
