use Rattle.std.proofs.Common.{Ok, take}
use Rattle.nm_io.specs.Observed.{Puts}
use Rattle.nm_log.specs.Replies.{printed}
use Rattle.nm_log.proofs.print.put_lines.Given as goal

-- the lines so far are put, and nothing failed
abbrev pub invariant-lines : goal.invariant-lines
invariant-lines g l = Puts (g.O.Sink.observed l.initial.out) (g.O.Sink.observed l.out) (Ok (tt {0})) (printed (take l.log-index l.lines))
