use Rattle.nm_threads.proofs.SameLemmas.{is_same_from, is_same_of}
use Rattle.nm_threads.proofs.laws.same_is_what_is_computed.Goals as goal

pub returns : goal.returns
returns c = λ rows a b. (is_same_from rows a b, is_same_of rows a b)
