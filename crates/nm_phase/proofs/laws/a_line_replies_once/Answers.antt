use Rattle.nm_phase.proofs.LineLemmas.{reply-few}
use Rattle.nm_phase.proofs.laws.a_line_replies_once.Goals as goal

pub returns : goal.returns
returns c = reply-few
