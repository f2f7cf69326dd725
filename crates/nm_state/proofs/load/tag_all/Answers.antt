use Rattle.nm_state.proofs.LoadLemmas.{one_more_tagged}
use Rattle.nm_state.proofs.load.tag_all.Goals as goal

pub tags-preserved : goal.tags-preserved
tags-preserved c =
    one_more_tagged c.args.tags.now c.tags.all c.set_tags.new.all c.tags.tagged-index c.tagged-item.result c.in_ok-copy.field-0 c.requires c.tags-test.true c.tags.invariant c.tagged-item.is c.in_ok-copy.ensures c.in_ok-set_tags.ensures.tags
