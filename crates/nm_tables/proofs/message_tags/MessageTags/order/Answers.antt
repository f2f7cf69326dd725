use Rattle.std.proofs.Common.{List, ℕ, subst}
use Rattle.std.specs.Map.{keys_of}
use Rattle.nm_base.specs.Order.{IsSorted}
use Rattle.nm_tables.proofs.SortedLemmas.{pairs_sorted}
use Rattle.nm_tables.proofs.message_tags.MessageTags.order.Goals as goal

pub returns : goal.returns
returns c = subst (λ (tags : List (List ℕ × List (List ℕ))). IsSorted (keys_of tags)) c.self.view_is (pairs_sorted c.self.inside.map)
