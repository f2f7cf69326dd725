use Rattle.nm_dump.proofs.RestoreLineLemmas.{InRestoring}
use Rattle.nm_dump.proofs.restore.restoring.Given as goal

abbrev pub invariant-wanted : goal.invariant-wanted
invariant-wanted l = InRestoring l.accumulate l.snapshot l.wanted l.line-index l.named l.lines l.strangers
