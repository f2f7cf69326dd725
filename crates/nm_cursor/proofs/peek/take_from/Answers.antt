use Rattle.nm_cursor.proofs.SetLemmas.{rising_none}
use Rattle.nm_cursor.proofs.PeekLemmas.{take_ahead, take_ended, take_later}
use Rattle.nm_cursor.proofs.peek.take_from.Goals as goal

pub returns-then-found-doc-clause-taken : goal.returns-then-found-doc-clause-taken
returns-then-found-doc-clause-taken g c = take_later _ _ _ _ _ _ c.in-At.is c.if-found-doc.true c.seek-then-found-doc.ensures.taken

pub returns-in-Ended-clause-taken : goal.returns-in-Ended-clause-taken
returns-in-Ended-clause-taken g c = take_ended _ _ _ c.in-Ended.is c.requires

pub returns-in-Ended-clause-rising : goal.returns-in-Ended-clause-rising
returns-in-Ended-clause-rising g c = rw c.in-Ended.is rising_none

pub returns-else-found-doc-clause-taken : goal.returns-else-found-doc-clause-taken
returns-else-found-doc-clause-taken g c = take_ahead _ _ _ _ c.in-At.is c.if-found-doc.false c.requires
