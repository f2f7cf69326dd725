use Rattle.nm_blocks.proofs.RunLemmas.{nothing_packed, packs_on, rising-drop, rising-take}
use Rattle.nm_blocks.proofs.block.pack_run.Goals as goal

pub whole-init : goal.whole-init
whole-init c = nothing_packed c.args.bytes.now c.args.hits.now c.requires

pub pack_into-requires-clause-rising : goal.pack_into-requires-clause-rising
pack_into-requires-clause-rising c = rw c.split_at.ensures.front (rising-take 128 c.whole.rest.now c.whole.invariant.rising)

pub whole-preserved : goal.whole-preserved
whole-preserved c =
    packs_on c.args.bytes.now c.whole.bytes c.pack_into.new.bytes c.args.hits.now c.whole.rest.now c.split_at.result.0.now c.split_at.result.1.now c.whole.invariant
    c.split_at.ensures.by_index.0 (rw c.split_at.ensures.back (rising-drop 128 c.whole.rest.now c.whole.invariant.rising)) c.pack_into.ensures.run c.in_ok-pack_into.ensures.ok
