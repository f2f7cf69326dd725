use Rattle.nm_mime.proofs.LawLemmas.{inside_apart}
use Rattle.nm_mime.proofs.laws.parts_in_a_part_stand_apart.Goals as goal

pub returns : goal.returns
returns c = λ mail opening i. inside_apart mail opening i
