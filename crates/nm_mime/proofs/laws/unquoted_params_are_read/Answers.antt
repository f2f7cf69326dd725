use Rattle.nm_mime.proofs.UnquotedLemmas.{read-written}
use Rattle.nm_mime.proofs.laws.unquoted_params_are_read.Goals as goal

pub returns : goal.returns
returns c = λ front params none written. read-written params front none written
