use Rattle.std.proofs.Common.{rules}
use Rattle.nm_dump.proofs.RestoreLineLemmas.{line_more}
use Rattle.nm_dump.proofs.restore.restoring.Goals as goal

pub wanted-preserved : goal.wanted-preserved
wanted-preserved c =
    line_more c.args.accumulate c.args.snapshot.now c.args.wanted.now c.wanted.line-index c.line-item.result c.wanted.named c.is_first.new.named c.wanted.lines c.push.new.self c.wanted.strangers c.add_stranger.new.strangers c.in_ok-first.first
    c.wanted-test.true c.line-item.is c.wanted.invariant c.in_ok-first.ensures (search rules) (search rules)
