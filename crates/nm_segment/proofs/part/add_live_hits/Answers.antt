use Rattle.std.proofs.Common.{sym, ◌∙◌}
use Rattle.nm_blocks.specs.Blocks.{run_hits}
use Rattle.nm_segment.specs.Merge.{living_hits}
use Rattle.nm_segment.proofs.LiveLemmas.{rising_kept}
use Rattle.nm_segment.proofs.part.add_live_hits.Goals as goal

pub push-requires : goal.push-requires
push-requires c =
    rising_kept c.args.live.now c.hits.writer c.in-Some.hit c.next.new.self c.hits.hits (living_hits c.args.live.now (run_hits c.args.run.now)) c.in-Some.ensures (sym c.has.ensures ∙ c.if-has.true) c.hits.invariant c.requires
