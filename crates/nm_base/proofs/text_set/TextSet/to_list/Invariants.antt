use Rattle.std.proofs.Common.{◌≡◌, ◌++◌}
use Rattle.nm_base.proofs.text_set.TextSet.to_list.Given as goal

-- so far, and what is left, is all
abbrev pub invariant-texts : goal.invariant-texts
invariant-texts g l = l.list.items ++ l.text-iterator ≡ l.self
