use Rattle.std.proofs.Common.{◌≡◌, take}
use Rattle.nm_scan.specs.Bodies.{left_after}
use Rattle.nm_scan.proofs.bodies.left_after.Given as goal

abbrev pub invariant-given : goal.invariant-given
invariant-given l = l.rest ≡ left_after l.left (take l.answer-index l.given)
