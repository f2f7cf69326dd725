use Rattle.nm_phase.proofs.TakenLemmas.{spare-all}
use Rattle.nm_phase.proofs.laws.turns_leave_the_other_places.Goals as goal

pub returns : goal.returns
returns c = spare-all
