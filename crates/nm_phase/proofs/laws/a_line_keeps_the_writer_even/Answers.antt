use Rattle.nm_phase.proofs.LineLemmas.{still-even}
use Rattle.nm_phase.proofs.laws.a_line_keeps_the_writer_even.Goals as goal

pub returns : goal.returns
returns c = still-even
