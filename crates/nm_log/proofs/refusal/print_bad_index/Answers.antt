use Rattle.nm_log.proofs.Puts.{StreamAppends-flushed}
use Rattle.nm_log.proofs.refusal.print_bad_index.Goals as goal

pub returns : goal.returns
returns g c = StreamAppends-flushed (g.E.Sink.observed c.args.err.now) (g.E.Sink.observed c.put_bad_index.new.err) (g.E.Sink.observed c.flush.new.self) c.flush.result _ _ c.in_ok-put_bad_index.ensures c.flush.ensures
