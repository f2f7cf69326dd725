use Rattle.nm_segment.proofs.OrderLemmas.{hits_rise}
use Rattle.nm_segment.proofs.laws.hits_are_in_order.Goals as goal

pub returns : goal.returns
returns c = hits_rise
