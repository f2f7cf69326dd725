use Rattle.std.proofs.Common.{◌≡◌, ◌++◌}
use Rattle.nm_replay.proofs.bodies.shared_bodies.Given as goal

-- the bodies so far, with those that are left, are all
abbrev pub invariant-bodies : goal.invariant-bodies
invariant-bodies l = l.shared ++ l.body-iterator.rest.items ≡ l.fn.bodies
