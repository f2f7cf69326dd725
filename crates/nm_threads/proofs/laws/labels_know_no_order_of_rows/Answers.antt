use Rattle.nm_threads.proofs.OrderLemmas.{labels_among}
use Rattle.nm_threads.proofs.laws.labels_know_no_order_of_rows.Goals as goal

pub returns : goal.returns
returns c = λ rows others labels there back are. labels_among rows others there back labels are
