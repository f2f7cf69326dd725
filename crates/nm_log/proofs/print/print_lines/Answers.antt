use Rattle.nm_log.proofs.Puts.{StreamAppends-flushed}
use Rattle.nm_log.proofs.print.print_lines.Goals as goal

pub returns : goal.returns
returns g c = StreamAppends-flushed (g.O.Sink.observed c.args.out.now) (g.O.Sink.observed c.put_lines.new.out) (g.O.Sink.observed c.flush.new.self) c.flush.result _ _ c.in_ok-put_lines.ensures c.flush.ensures
