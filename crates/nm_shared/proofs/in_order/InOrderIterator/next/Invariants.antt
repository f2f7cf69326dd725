use Rattle.std.proofs.Common.{◌≡◌, ◌++◌, length}
use Rattle.nm_shared.specs.Runs.{flat}
use Rattle.nm_shared.proofs.in_order.InOrderIterator.next.Given as goal

abbrev pub invariant-parts : goal.invariant-parts
invariant-parts g l = l.self-inside.front ++ flat l.self-inside.rest.now ≡ l.initial.self-inside.front ++ flat l.initial.self-inside.rest.now

abbrev pub decreases-parts : goal.decreases-parts
decreases-parts g l = length l.self-inside.rest.now
