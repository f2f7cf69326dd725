use Rattle.std.proofs.Common.{◌≡◌, ◌||◌, ℕ, List, length}
use Rattle.std.specs.List.{list_any}
use Rattle.nm_base.specs.Order.{has_text}
use Rattle.nm_eval.proofs.LeftOutLemmas.{is_out}
use Rattle.nm_eval.proofs.exclusion.left_out.Given as goal

-- what is left out so far, and what is of those that are left, is all that is
abbrev pub invariant-messages : goal.invariant-messages
invariant-messages l = (id : List ℕ) → (has_text l.ids id || list_any (is_out l.exclusion id) l.rest) ≡ list_any (is_out l.exclusion id) l.snapshot.tags

abbrev pub decreases-messages : goal.decreases-messages
decreases-messages l = length l.rest
