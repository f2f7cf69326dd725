use Rattle.nm_log.proofs.Puts.{StreamAppends-flushed}
use Rattle.nm_log.proofs.print.print_text.Goals as goal

pub returns : goal.returns
returns g c = StreamAppends-flushed (g.E.Sink.observed c.args.err.now) (g.E.Sink.observed c.put.new.self) (g.E.Sink.observed c.flush.new.self) c.flush.result _ _ c.in_ok-put.ensures c.flush.ensures
