use Rattle.std.proofs.Common.{◌≡◌, ◌++◌, length}
use Rattle.nm_state.proofs.export.tags_of.Given as goal

-- what is copied, and what is left, is all
abbrev pub invariant-tags : goal.invariant-tags
invariant-tags l = l.tags ++ l.rest ≡ l.all

abbrev pub decreases-tags : goal.decreases-tags
decreases-tags l = length l.rest
