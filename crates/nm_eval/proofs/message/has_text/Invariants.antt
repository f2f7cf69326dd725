use Rattle.std.proofs.Common.{◌≡◌}
use Rattle.nm_base.specs.Order.{has_text}
use Rattle.nm_eval.proofs.message.has_text.Given as goal

-- what is left has the tag where all have
abbrev pub invariant-tags : goal.invariant-tags
invariant-tags l = has_text l.other-iterator l.tag ≡ has_text l.tags l.tag
