use Rattle.nm_log.proofs.Puts.{Puts-first, Puts-then}
use Rattle.nm_log.proofs.print.put_five.Goals as goal

pub returns-in_err-put : goal.returns-in_err-put
returns-in_err-put g c = Puts-first (g.E.Sink.observed c.args.err.now) (g.E.Sink.observed c.put.new.self) c.from_residual.result _ _ _ c.from_residual.ensures.0 c.in_err-put.ensures

pub returns : goal.returns
returns g c = Puts-then (g.E.Sink.observed c.args.err.now) (g.E.Sink.observed c.put.new.self) (g.E.Sink.observed c.put_four.new.err) c.put_four.result _ _ _ c.in_ok-put.ensures c.put_four.ensures
