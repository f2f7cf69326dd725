use Rattle.std.proofs.Common.{◌≡◌, ◌++◌, take}
use Rattle.nm_shared.proofs.runs.joined.Given as goal

abbrev pub invariant-items : goal.invariant-items
invariant-items g l = l.joined.items ≡ l.initial.joined.items ++ take l.item-index l.back
