use Rattle.std.proofs.Common.{◌≡◌, take}
use Rattle.nm_disk.specs.Memory.{stopped_after}
use Rattle.nm_disk.proofs.crash.state_at.Given as goal

abbrev pub invariant-events : goal.invariant-events
invariant-events l = l.state ≡ stopped_after l.start (take l.event-index l.events) l.call
