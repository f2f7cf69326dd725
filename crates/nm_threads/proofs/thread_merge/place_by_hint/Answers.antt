use Rattle.std.proofs.Common.{sym}
use Rattle.nm_threads.proofs.PlaceLemmas.{has_group, has_thread}
use Rattle.nm_threads.proofs.thread_merge.place_by_hint.Goals as goal

pub returns-in_err-group : goal.returns-in_err-group
returns-in_err-group c = absurd (has_group c.args.maps.now c.requires c.args.id.now c.in_ok-next.number.now (sym c.in_ok-next.ensures) c.in_err-group.ensures)

pub returns-in_err-thread : goal.returns-in_err-thread
returns-in_err-thread c = absurd (has_thread c.args.maps.now c.requires c.args.id.now c.in_ok-next.number.now c.in_ok-group.field-0.now (sym c.in_ok-next.ensures) c.in_ok-group.ensures c.in_err-thread.ensures)
