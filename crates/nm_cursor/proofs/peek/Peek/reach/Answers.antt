use Rattle.nm_cursor.proofs.SetLemmas.{rising-from}
use Rattle.nm_cursor.proofs.PeekLemmas.{ahead_rises}
use Rattle.nm_cursor.proofs.peek.Peek.reach.Goals as goal

pub invariant_of-self : goal.invariant_of-self
invariant_of-self g c = rw c.of-self-inside.ensures (ahead_rises _ _ _ c.take_from-found.ensures.taken (rising-from _ _ c.take_from-found.ensures.rising))
