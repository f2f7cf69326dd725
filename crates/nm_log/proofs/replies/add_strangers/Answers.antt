use Rattle.nm_model_answer.specs.Restore.{stranger_line}
use Rattle.nm_log.proofs.LineLemmas.{one-more}
use Rattle.nm_log.proofs.replies.add_strangers.Goals as goal

pub strangers-preserved : goal.strangers-preserved
strangers-preserved c = one-more stranger_line c.args.text.now c.strangers.text c.add_stranger.new.text c.args.strangers.now c.strangers.id-index c.id-item.result c.strangers-test.true c.id-item.is c.strangers.invariant c.in_ok-add_stranger.ensures
