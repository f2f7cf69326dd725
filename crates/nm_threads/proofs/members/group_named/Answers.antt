use Rattle.nm_threads.proofs.RemoveLemmas.{no_group, no_thread, not_named}
use Rattle.nm_threads.proofs.members.group_named.Goals as goal

pub returns-in_err-group : goal.returns-in_err-group
returns-in_err-group c = rw c.from_residual.ensures (no_group c.args.maps.now c.requires c.args.name c.in_err-group.ensures)

pub returns-in_err-thread : goal.returns-in_err-thread
returns-in_err-thread c = rw c.from_residual-in_err-thread.ensures (no_thread c.args.maps.now c.requires c.args.name c.in_ok-group.field-0.now c.in_ok-group.ensures c.in_err-thread.ensures)

pub returns-else-thread-name : goal.returns-else-thread-name
returns-else-thread-name c = not_named c.args.maps.now c.requires c.args.name c.in_ok-group.field-0.now c.in_ok-thread.thread.now c.in_ok-group.ensures c.in_ok-thread.ensures c.if-thread-name.false
