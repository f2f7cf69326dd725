use Rattle.nm_dates.proofs.SecondsLemmas.{end_rises}
use Rattle.nm_dates.proofs.laws.no_end_is_empty.Goals as goal

pub returns : goal.returns
returns c = end_rises
