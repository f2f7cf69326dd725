use Rattle.nm_history.proofs.BankLemmas.{refused-disk}
use Rattle.nm_history.proofs.laws.a_refused_opening_keeps_the_index.Goals as goal

pub returns : goal.returns
returns c = λ before now image image_now syncs. refused-disk before now image image_now syncs (λ file. c.a_sync_leaves_nothing_new.ensures file before now image syncs)
