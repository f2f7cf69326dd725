use Rattle.nm_cursor.proofs.FromLemmas.{taken_of_all}
use Rattle.nm_cursor.proofs.both.BothCursor.next.Goals as goal

pub returns-clause-taken : goal.returns-clause-taken
returns-clause-taken g c = taken_of_all _ _ _ c.seek.ensures.taken
