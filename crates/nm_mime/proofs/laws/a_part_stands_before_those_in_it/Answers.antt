use Rattle.nm_mime.proofs.LawLemmas.{parts_down}
use Rattle.nm_mime.proofs.laws.a_part_stands_before_those_in_it.Goals as goal

pub returns : goal.returns
returns c = λ mail. parts_down mail
