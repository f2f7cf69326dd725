use Rattle.nm_history.proofs.LawLemmas.{open-not-closed}
use Rattle.nm_history.proofs.laws.no_line_is_closed_without_a_fault.Goals as goal

pub returns : goal.returns
returns c = open-not-closed
