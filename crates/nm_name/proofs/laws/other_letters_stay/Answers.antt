use Rattle.nm_name.proofs.LawLemmas.{other_letters_stay}
use Rattle.nm_name.proofs.laws.other_letters_stay.Goals as goal

pub returns : goal.returns
returns c = other_letters_stay
