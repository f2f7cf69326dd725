use Rattle.nm_publish.proofs.RuleLemmas.{enters}
use Rattle.nm_publish.proofs.seats.look.Goals as goal

pub enter_as-requires : goal.enter_as-requires
enter_as-requires c x = enters _ _ x
