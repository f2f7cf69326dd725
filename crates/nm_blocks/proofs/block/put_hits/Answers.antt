use Rattle.std.proofs.Common.{◌∙◌, length}
use Rattle.nm_blocks.proofs.BlockLemmas.{fits_on, room_after, writes_on}
use Rattle.nm_blocks.proofs.block.put_hits.Goals as goal

pub hits-preserved : goal.hits-preserved
hits-preserved c =
    rw c.put_hit.ensures.bytes (
      writes_on c.hits.draft _ c.hits.before c.args.hits.now c.hits.hit-index _ c.hits-test.true c.hits.invariant.0,
      room_after c.hits.draft c.hits.before _ (length c.args.hits.now) c.hits.hit-index c.hits-test.true c.hits.invariant.1,
      c.hits.invariant.2 ∙ fits_on c.args.hits.now c.hits.hit-index _ c.hits-test.true c.put_hit.ensures.fits,
    )
