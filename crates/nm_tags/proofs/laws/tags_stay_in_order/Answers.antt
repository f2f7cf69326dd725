use Rattle.nm_tags.proofs.TagLemmas.{sorted-after}
use Rattle.nm_tags.proofs.laws.tags_stay_in_order.Goals as goal

pub returns : goal.returns
returns c = sorted-after
